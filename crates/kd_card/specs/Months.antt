-- Lists of settings for several days in turn, and how many settings they have in total.
use Rattle.std.specs.Prelude.{◌≢◌, ℕ, ◌≤◌, List, [], ◌∷◌, length, map, sum, All}
use Rattle.kd_tables.specs.declared.model.Model.TheVariants.{M209}
use Rattle.kd_state.specs.declared.{machine.parts.Parts.Parts, setting.Setting.Setting}
use Rattle.kd_state.specs.{Machine.{IsMachine, model_of}, OnKey.ReadsAs, Setting.Leads, SheetDay.{Day, IsLegalDay}}
use Rattle.kd_card.specs.{declared.prices.PriceParts.PriceParts, Prices.ArePrices, Proving.Proves}

-- Carrying out the settings changes `machine` into `after`, which is set as the day says and shows the day's letters.
pub record ReachesDay (machine : Parts) (day : Day) (settings : List Setting) (after : Parts) : Type 0 where
  pub leads : Leads machine settings after
  pub reads : ReadsAs after day

-- The settings reach the day. With some valid prices, they make a card that proves itself.
pub record IsProvedCard (machine : Parts) (day : Day) (settings : List Setting) (after : Parts) : Type 0 where
  pub reaches : ReachesDay machine day settings after
  pub prices : PriceParts
  pub are_prices : ArePrices prices
  pub proves : Proves machine day settings prices

-- Each of `days` has one list of settings. The first list is carried out on `machine`, and each later list on the
-- machine that the previous list has reached. For each list, `Sets` holds of the machine before the list, the day, the
-- list, and the machine after the list. For example, `Sets` is `ReachesDay`.
abbrev pub DayAfterDay : (Parts → Day → List Setting → Parts → Type 0) → Parts → List Day → List (List Setting) → Type 0
DayAfterDay Sets machine [] [] = Unit {0}
DayAfterDay Sets machine (day ∷ days) (settings ∷ lists) =
    (after : Parts) × Sets machine day settings after × DayAfterDay Sets after days lists
DayAfterDay Sets machine days lists = ⊥

-- the number of settings in all lists
abbrev pub total_length : List (List Setting) → ℕ
total_length lists = sum (map length lists)

-- Suppose that a rotor machine has a card for each of several days, and each card proves itself. Then the cards have
-- the fewest settings in total. Other lists that reach these days, in this order and from the same first machine, have
-- no fewer settings.
abbrev pub CardsAreFewestInAll : Type 0
CardsAreFewestInAll =
    (machine : Parts) (days : List Day) (cards lists : List (List Setting)) → IsMachine machine
    → model_of machine ≢ M209
    → All IsLegalDay days → DayAfterDay IsProvedCard machine days cards → DayAfterDay ReachesDay machine days lists
    → total_length cards ≤ total_length lists
