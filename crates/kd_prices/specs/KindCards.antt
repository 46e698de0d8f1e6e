-- When and how a card with prices by number becomes a card with prices by kind. Prices are *by number* if each cable,
-- pair, bar or row has its own price.
use Rattle.std.specs.Prelude.{◌≡◌}
use Rattle.kd_state.specs.{Machine.model_of, SheetDay.{Day, day_model}, declared.machine.parts.Parts.Parts}
use Rattle.kd_card.specs.declared.{card.Card.Card, prices.{PriceParts.PriceParts, Version.TheVariants.ByKind}}
use Rattle.kd_card.specs.{Prices.version_of, Proving.{AreModelPrices, Expands}}
use Rattle.kd_prices.specs.Laws.{AreEqualWhereAlike}

-- Machine and day are of one model. Each cable and column, or each bar and row, has its own price. Equal cables,
-- columns, bars or rows have equal prices.
pub record CanBeByKind (machine : Parts) (day : Day) (prices : PriceParts) : Type 0 where
  pub model : model_of machine ≡ day_model day
  pub kind : AreModelPrices machine prices
  pub equal : AreEqualWhereAlike machine day prices

-- The card `other` has the settings of `card`, and has prices by kind. Each kind has the price that its cables,
-- columns, bars or rows have on `card`.
pub record IsByKind (machine : Parts) (day : Day) (card other : Card) : Type 0 where
  pub settings : other.settings.items ≡ card.settings.items
  pub version : version_of other.prices ≡ ByKind
  pub expands : Expands machine day other.prices card.prices
