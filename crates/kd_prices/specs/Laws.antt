-- Laws of cards that prove themselves, and of the first doubt about any other card.
use Rattle.std.specs.Prelude.{◌≡◌, ℕ, ◌-◌, ◌<◌, ◌≤◌, List, length, take, drop}
use Rattle.kd_state.specs.{SheetDay.{Day, IsLegalDay}, declared.{machine.parts.Parts.Parts, setting.Setting.Setting}}
use Rattle.kd_state.specs.{Machine.IsMachine, Setting.Leads}
use Rattle.kd_card.specs.declared.prices.PriceParts.{PriceParts}
use Rattle.kd_card.specs.Prices.{machine_prices, day_prices, table_size, price_at, ArePrices}
use Rattle.kd_card.specs.Proving.{ProvesByNumber, Proves}
use Rattle.kd_card.specs.Shortest.{LeadsToTheDay, IsShortest}
use Rattle.kd_prices.specs.Alike.{ReadAlike, StandAlike}
use Rattle.kd_prices.specs.Doubt.{IsDoubt}
use Rattle.kd_prices.specs.declared.doubt.Doubt.{Doubt}

-- If a card proves itself, there is no doubt about the card.
abbrev pub ProvingCardsAreInNoDoubt : Type 0
ProvingCardsAreInNoDoubt =
    (machine : Parts) (day : Day) (settings : List Setting) (prices : PriceParts) (doubt : Doubt)
    → Proves machine day settings prices
    → ¬ (IsDoubt machine day settings prices doubt)

-- No card has two different first doubts.
abbrev pub OneDoubt : Type 0
OneDoubt =
    (machine : Parts) (day : Day) (settings : List Setting) (prices : PriceParts) (doubt other : Doubt)
    → IsDoubt machine day settings prices doubt → IsDoubt machine day settings prices other
    → doubt ≡ other

-- The list `settings` has `number` settings, and leads the machine to the day. No shorter list leads to the day.
pub record AreShortest (machine : Parts) (day : Day) (settings : List Setting) (number : ℕ) : Type 0 where
  pub leads : LeadsToTheDay machine day settings
  pub shortest : IsShortest machine day settings
  pub count : length settings ≡ number

-- Suppose that a card proves itself, and that its first `lines` settings are carried out. The remaining settings are
-- then a shortest list to the day.
abbrev pub RestIsShortest : Type 0
RestIsShortest =
    (machine between : Parts) (day : Day) (settings : List Setting) (prices : PriceParts) (lines : ℕ)
    → IsMachine machine
    → IsLegalDay day → ArePrices prices
    → Proves machine day settings prices → lines ≤ length settings → Leads machine (take lines settings) between
    → AreShortest between day (drop lines settings) (length settings - lines)

-- On a rotor machine, cables with the same letters have equal prices. All columns without a pair also have equal
-- prices. On a Converter, bars with the same standing have equal prices. Rows with the same reading also have equal
-- prices.
pub record AreEqualWhereAlike (machine : Parts) (day : Day) (prices : PriceParts) : Type 0 where
  pub rows :
      (place other : ℕ) → place < table_size prices → other < table_size prices → StandAlike machine place other
      → price_at (machine_prices prices) place ≡ price_at (machine_prices prices) other
  pub columns :
      (place other : ℕ) → place < table_size prices → other < table_size prices → ReadAlike day place other
      → price_at (day_prices prices) place ≡ price_at (day_prices prices) other

-- Prices are *by number* if each cable and column, or each bar and row, has its own price. If a card with prices by
-- number proves itself, equal cables, columns, bars or rows have equal prices.
abbrev pub AlikePricesAreEqual : Type 0
AlikePricesAreEqual =
    (machine : Parts) (day : Day) (settings : List Setting) (prices : PriceParts) → IsMachine machine → IsLegalDay day
    → ArePrices prices → ProvesByNumber machine day settings prices
    → AreEqualWhereAlike machine day prices
