-- Why a card doesn't prove itself: the first doubt, in a fixed order. The settings, rows and columns that a doubt names
-- are counted from 1.
use Rattle.std.specs.Prelude.{◌≡◌, ◌⊎◌, ℕ, ◌+◌, ◌<◌, List, ◌∷◌, ◌++◌, length, ℤ, pos, Ok, Err}
use Rattle.kd_state.specs.{AnswerRules.{AnswerRule, Demands, Finds, ◌>>=◌}, Setting.{IsFirstIllegal, Leads}}
use Rattle.kd_state.specs.declared.{machine.parts.Parts.{Parts, TheVariants.{Pin, Rotor}}, setting.Setting.Setting}
use Rattle.kd_state.specs.{Costs.cost_table, Machine.model_of, OnKey.ReadsAs, SheetDay.{Day, day_model}}
use Rattle.kd_card.specs.Prices.{PricesFit, PricesFitAt, day_prices, price_sum, machine_prices, table_size}
use Rattle.kd_card.specs.declared.prices.PriceParts.{PriceParts, TheVariants.{BarKinds, Bars, CableKinds, Cables}}
use Rattle.kd_card.specs.Proving.{AreSettingsNeeded, Expands, IsSettingNeeded, priced_count}
use Rattle.kd_prices.specs.declared.doubt.Doubt.TheVariants.{NeedlessLine, NotTheSheet, PriceMissing, PriceTooHigh}
use Rattle.kd_prices.specs.declared.doubt.Doubt.{Doubt, TheVariants.{IllegalAt, OtherModel, SumDiffers}}

-- The prices suit the machine: a rotor machine has prices of cables and columns, and a Converter has prices of bars and
-- rows.
abbrev pub PricesSuitMachine : Parts → PriceParts → Type 0
PricesSuitMachine (Rotor machine) (Cables row col) = Unit {0}
PricesSuitMachine (Rotor machine) (CableKinds row col) = Unit {0}
PricesSuitMachine (Pin machine) (Bars row col) = Unit {0}
PricesSuitMachine (Pin machine) (BarKinds row col) = Unit {0}
PricesSuitMachine _ _ = ⊥

-- In row-by-row order, the cell in row `i` and column `j` comes before the cell in row `row` and
-- column `column`.
abbrev pub CellComesBefore : ℕ → ℕ → ℕ → ℕ → Type 0
CellComesBefore i j row column = (i < row) ⊎ ((i ≡ row) × (j < column))

-- Row by row, the first cell where `Holds` is false is in row `row` and column `column`, counted from 0. The table has
-- `number` rows and `number` columns.
pub record IsFirstWithout (Holds : ℕ → ℕ → Type 0) (number row column : ℕ) : Type 0 where
  pub row_within : row < number
  pub column_within : column < number
  pub here : ¬ (Holds row column)
  pub before : (i j : ℕ) → j < number → CellComesBefore i j row column → Holds i j

-- The setting on line `line`, counted from 1, is the first of `settings` that isn't needed.
pub record IsFirstNeedless (machine : Parts) (day : Day) (settings : List Setting) (line : ℕ) : Type 0 where
  pub front : List Setting
  pub setting : Setting
  pub rest : List Setting
  pub between : Parts
  pub split : settings ≡ front ++ setting ∷ rest
  pub number : line ≡ length front + 1
  pub leads : Leads machine front between
  pub needed : AreSettingsNeeded machine day front
  pub needless : ¬ (IsSettingNeeded between day setting)

-- The result of carrying out the settings: the machine after the settings, or the first refused line and the reason.
abbrev pub IsCarriedAnswer : Parts → List Setting → AnswerRule Doubt Parts
IsCarriedAnswer machine settings (Ok after) = Leads machine settings after
IsCarriedAnswer machine settings (Err (IllegalAt line why)) = IsFirstIllegal machine settings line why
IsCarriedAnswer machine settings (Err doubt) = ⊥

-- The result of comparing the prices with the table of costs: success, or the first cell where the prices don't fit.
abbrev pub IsFitsAnswer : List (List ℕ) → PriceParts → AnswerRule Doubt (Unit {0})
IsFitsAnswer costs prices (Ok fits) = PricesFit costs prices
IsFitsAnswer costs prices (Err (PriceTooHigh i j)) =
    (row : ℕ) × (column : ℕ) × (i ≡ row + 1) × (j ≡ column + 1)
    × IsFirstWithout (PricesFitAt costs prices) (table_size prices) row column
IsFitsAnswer costs prices (Err doubt) = ⊥

-- The result of testing whether all settings are needed: success, or the first setting that isn't needed.
abbrev pub IsNeededAnswer : Parts → Day → List Setting → AnswerRule Doubt (Unit {0})
IsNeededAnswer machine day settings (Ok all) = AreSettingsNeeded machine day settings
IsNeededAnswer machine day settings (Err (NeedlessLine line)) = IsFirstNeedless machine day settings line
IsNeededAnswer machine day settings (Err doubt) = ⊥

-- The result of checking a card with prices by number: success, or the first doubt. Success means that the settings
-- lead to the day, and the prices prove that no shorter list does.
abbrev pub IsByNumberAnswer : Parts → Day → List Setting → PriceParts → AnswerRule Doubt (Unit {0})
IsByNumberAnswer machine day settings prices = do
  n ← IsCarriedAnswer machine settings
  _ ← Demands (ReadsAs n day) NotTheSheet
  _ ← IsFitsAnswer (cost_table machine day) prices
  _ ← Demands (price_sum prices ≡ pos (priced_count settings)) SumDiffers
  IsNeededAnswer machine day settings

-- The result of checking a card: success if the card proves itself, otherwise the first doubt. If the prices are by
-- kind, the check first finds the price of each cable, column, bar or row.
abbrev pub IsCheckedAnswer : Parts → Day → List Setting → PriceParts → AnswerRule Doubt (Unit {0})
IsCheckedAnswer machine day settings prices = do
  _ ← Demands (model_of machine ≡ day_model day) OtherModel
  _ ← Demands (PricesSuitMachine machine prices) OtherModel
  numbered ← Finds (λ numbered. Expands machine day prices numbered) PriceMissing
  IsByNumberAnswer machine day settings numbered

-- `doubt` is the first doubt about the card with the settings `settings` and the prices `prices`.
abbrev pub IsDoubt : Parts → Day → List Setting → PriceParts → Doubt → Type 0
IsDoubt machine day settings prices doubt = IsCheckedAnswer machine day settings prices (Err doubt)

-- ---- The steps of finding the first doubt. No public contract cites these definitions.

-- The result of checking settings with the prices in two lists. Success means that the settings lead to the day, and
-- that the prices prove them shortest. Otherwise, the result is the first doubt. The lists `rows` and `columns` have
-- `number` prices each, for the rows and columns of the table of costs.
abbrev pub IsByPricesAnswer : Parts → Day → List Setting → ℕ → List ℤ → List ℤ → AnswerRule Doubt (Unit {0})
IsByPricesAnswer machine day settings number rows columns answer =
    (prices : PriceParts) → machine_prices prices ≡ rows → day_prices prices ≡ columns → table_size prices ≡ number
    → IsByNumberAnswer machine day settings prices answer

-- The result of finding the prices of the table's rows and columns: two lists of prices, or the first doubt. The
-- function `make` turns the two lists into the prices of a card.
abbrev pub ArePricesFound : Parts → Day → PriceParts → (List ℤ → List ℤ → PriceParts)
    → AnswerRule Doubt (List ℤ × List ℤ)
ArePricesFound machine day prices make = do
  _ ← Demands (PricesSuitMachine machine prices) OtherModel
  Finds (λ (found : List ℤ × List ℤ). Expands machine day prices (make found.0 found.1)) PriceMissing
