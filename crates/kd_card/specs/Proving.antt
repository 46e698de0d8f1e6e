-- A card that proves itself: its settings lead to the day, and its prices show that no shorter list does.
use Rattle.kd_card.specs.declared.prices.PriceParts.TheVariants.{Cables, Bars, CableKinds, BarKinds}
use Rattle.kd_card.specs.Kinds.{cable_format, pair_format, bar_format, row_format, AreKindsOf}
use Rattle.kd_card.specs.{Prices.{version_of, price_sum, PricesFit, ArePrices}, declared.prices.PriceParts.PriceParts}
use Rattle.kd_card.specs.declared.prices.Version.TheVariants.{ByNumber}
use Rattle.kd_state.specs.{declared.setting.Setting.TheVariants.{Pull, Put, LugTo}, declared.machine.parts.Parts.Parts}
use Rattle.kd_state.specs.{declared.machine.parts.Parts.TheVariants.{Rotor, Pin}, declared.setting.Setting.Setting}
use Rattle.kd_state.specs.Costs.{cost_table, loose_count}
use Rattle.kd_state.specs.SheetDay.{Day, Rotor, Pin, day_model}
use Rattle.kd_state.specs.{Setting.Carries, Machine.model_of, OnKey.columns_in_order}
use Rattle.kd_card.specs.Shortest.{LeadsToTheDay}
use Rattle.std.specs.Prelude.{◌≡◌, ℕ, ◌+◌, Bool, true, false, List, [], ◌∷◌, pos, IsFalse, count_by}

-- The prices are by number. A rotor machine has prices for cables and columns, and a Converter has prices for bars and
-- rows.
abbrev pub AreModelPrices : Parts → PriceParts → Type 0
AreModelPrices (Rotor machine) (Cables cables columns) = Unit {0}
AreModelPrices (Pin machine) (Bars bars rows) = Unit {0}
AreModelPrices _ _ = ⊥

-- whether the setting changes a cable or a bar
abbrev pub is_priced_setting : Setting → Bool
is_priced_setting (Pull cable letter) = true
is_priced_setting (Put cable letter) = true
is_priced_setting (LugTo bar lug place) = true
is_priced_setting _ = false

-- the number of settings that change a cable or a bar
abbrev pub priced_count : List Setting → ℕ
priced_count settings = count_by is_priced_setting settings

-- The setting is needed: it changes a cable or a bar, or it lowers the number of loose things by one. A thing such as
-- a ring is loose if it isn't as the day says. Cables and bars are never loose.
abbrev pub IsSettingNeeded : Parts → Day → Setting → Type 0
IsSettingNeeded machine day setting = IsFalse (is_priced_setting setting)
    → (after : Parts) × Carries machine setting after × (loose_count machine day ≡ loose_count after day + 1)

-- The machine carries the settings out one after another, and each setting is needed when its turn comes.
abbrev pub AreSettingsNeeded : Parts → Day → List Setting → Type 0
AreSettingsNeeded machine day [] = Unit {0}
AreSettingsNeeded machine day (setting ∷ rest) = (after : Parts) × Carries machine setting after
    × IsSettingNeeded machine day setting × AreSettingsNeeded after day rest

-- ---- prices by kind, turned into prices by number

-- The first prices are by kind. A kind with the count 3 stands for three cables, columns, bars or rows. Together, the
-- kinds stand for exactly the machine's cables and the day's columns, or the machine's bars and the day's rows. The
-- second prices are by number: each cable, column, bar or row has the price of its kind.
abbrev pub AreExpanded : Parts → Day → PriceParts → PriceParts → Type 0
AreExpanded (Rotor machine) (Rotor day) (CableKinds cable_kinds column_kinds) (Cables cables columns) =
    AreKindsOf cable_format machine.cables cables cable_kinds.items
    × AreKindsOf pair_format (columns_in_order day.pairs) columns column_kinds.items
AreExpanded (Pin machine) (Pin day) (BarKinds bar_kinds row_kinds) (Bars bars rows) =
    AreKindsOf bar_format machine.bars bars bar_kinds.items × AreKindsOf row_format day.rows rows row_kinds.items
AreExpanded _ _ _ _ = ⊥

-- `numbered` are the prices `prices`, turned into prices by number. Prices by number stay as they are. If `prices` are
-- by kind, `numbered` gives each cable, column, bar or row the price of its kind. In this case, `prices` and `numbered`
-- are valid.
pub data Expands (machine : Parts) (day : Day) (prices numbered : PriceParts) : Type 0 where
  Same : version_of prices ≡ ByNumber → prices ≡ numbered → Expands machine day prices numbered
  Expanded : ArePrices prices → ArePrices numbered → AreExpanded machine day prices numbered
      → Expands machine day prices numbered

-- ---- the card proves itself

-- A card with prices by number proves itself. The card's settings lead the machine to the day, and each setting is
-- needed. The card's prices fit the table of costs. The sum of the prices is the number of settings that change a cable
-- or a bar.
pub record ProvesByNumber (machine : Parts) (day : Day) (settings : List Setting) (prices : PriceParts) : Type 0 where
  pub model : model_of machine ≡ day_model day
  pub kind : AreModelPrices machine prices
  pub leads : LeadsToTheDay machine day settings
  pub fits : PricesFit (cost_table machine day) prices
  pub sum : price_sum prices ≡ pos (priced_count settings)
  pub needed : AreSettingsNeeded machine day settings

-- A card proves itself. `numbered` are the card's prices, turned into prices by number. With these prices, the card
-- proves itself as in `ProvesByNumber`.
pub record Proves (machine : Parts) (day : Day) (settings : List Setting) (prices : PriceParts) : Type 0 where
  pub numbered : PriceParts
  pub expands : Expands machine day prices numbered
  pub proves : ProvesByNumber machine day settings numbered
