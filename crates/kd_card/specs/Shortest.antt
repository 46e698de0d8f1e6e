-- Shortest lists of settings from a machine to a day, and how prices by kind prove a list shortest.
use Rattle.kd_card.specs.{declared.prices.PriceParts.PriceParts, Prices.price_sum}
use Rattle.kd_card.specs.declared.prices.PriceParts.TheVariants.{CableKinds, BarKinds}
use Rattle.kd_state.specs.{declared.setting.Setting.Setting, declared.machine.parts.Parts.Parts}
use Rattle.kd_state.specs.declared.machine.parts.Parts.TheVariants.{Rotor, Pin}
use Rattle.kd_state.specs.{Costs.{cable_cost, bar_cost, loose_count}, SheetDay.{Day, Rotor, Pin}}
use Rattle.kd_state.specs.{Setting.Leads, OnKey.{ReadsAs, columns_in_order}}
use Rattle.std.specs.Prelude.{◌≡◌, ◌≤◌, List, length, pos, flat_map, replicate, All, IsPermutation, ◌+ℤ◌, ◌≤ℤ◌}

-- After the settings are carried out in turn, the machine is set as the day says, and shows the day's letters.
abbrev pub LeadsToTheDay : Parts → Day → List Setting → Type 0
LeadsToTheDay machine day settings = (reached : Parts) × Leads machine settings reached × ReadsAs reached day

-- No list that leads the machine to the day is shorter than `settings`.
abbrev pub IsShortest : Parts → Day → List Setting → Type 0
IsShortest machine day settings =
    (others : List Setting) → LeadsToTheDay machine day others → length settings ≤ length others

-- The prices are by kind, and they fit. A kind with the count 3 stands for three cables, columns, bars or rows.
-- Together, the kinds stand for exactly the machine's cables and the day's columns, or the machine's bars and the
-- day's rows. In each cell of the table of costs, the prices of row and column add up to at most the cost.
abbrev pub KindPricesFit : Parts → Day → PriceParts → Type 0
KindPricesFit (Rotor machine) (Rotor day) (CableKinds cables columns) =
    IsPermutation machine.cables (flat_map (λ k. replicate k.count k.ends) cables.items)
    × IsPermutation (columns_in_order day.pairs) (flat_map (λ k. replicate k.count k.pair) columns.items)
    × All (λ k. All (λ c. (k.price +ℤ c.price) ≤ℤ pos (cable_cost k.ends c.pair)) columns.items) cables.items
KindPricesFit (Pin machine) (Pin day) (BarKinds bars rows) =
    IsPermutation machine.bars (flat_map (λ k. replicate k.count k.standing) bars.items)
    × IsPermutation day.rows (flat_map (λ k. replicate k.count k.reading) rows.items)
    × All (λ k. All (λ r. (k.price +ℤ r.price) ≤ℤ pos (bar_cost k.standing r.reading)) rows.items) bars.items
KindPricesFit _ _ _ = ⊥

-- The prices fit, and the number of settings is the sum of the prices plus the number of loose things. So no shorter
-- list reaches the day. A loose thing isn't as the day says, and is neither a cable nor a bar.
pub record ShowShortest (machine : Parts) (day : Day) (settings : List Setting) (prices : PriceParts) : Type 0 where
  pub fit : KindPricesFit machine day prices
  pub as_many : pos (length settings) ≡ (pos (loose_count machine day) +ℤ price_sum prices)
