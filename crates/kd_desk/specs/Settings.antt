-- Settings as bytes: a card if the bytes begin with `CARD` and a space, otherwise a list.
-- Code: `read_settings` looks at the first five bytes, and then calls the reader of cards or of lists.
-- Test: tests/cases/desk-cards.toml
use Rattle.std.specs.Prelude.{codes, ◌≡◌, ℕ, nat_eq, Bool, List, IsTrue, IsFalse}
use Rattle.std.specs.List.{starts_with}
use Rattle.kd_state.specs.declared.setting.Setting.{Setting}
use Rattle.kd_state.specs.declared.setting.list.ListFault.{ListFault}
use Rattle.kd_state.specs.Line.{IsListText, IsListFault}
use Rattle.kd_card.specs.declared.fault.CardFault.{CardFault}
use Rattle.kd_card.specs.declared.prices.PriceParts.{PriceParts}
use Rattle.kd_card.specs.CardText.{IsCard}
use Rattle.kd_card.specs.CardFault.{IsCardFault}
use Rattle.kd_desk.specs.declared.fault.DeskFault.{DeskFault}
use Rattle.kd_desk.specs.declared.fault.DeskFault.TheVariants as faults

-- whether the bytes begin with `CARD `, as every card does
abbrev pub begins_as_card : List ℕ → Bool
begins_as_card bytes = starts_with nat_eq bytes (codes "CARD ")

-- `bytes` are a list of `settings`, or a card with these settings, for any day and with any prices.
pub data AreSettings (bytes : List ℕ) (settings : List Setting) : Type 0 where
  OfCard : IsTrue (begins_as_card bytes) → (day : ℕ) (prices : PriceParts) → IsCard bytes day settings prices
      → AreSettings bytes settings
  OfList : IsFalse (begins_as_card bytes) → IsListText bytes settings → AreSettings bytes settings

-- If the bytes begin with `CARD` and a space, `fault` is why they aren't a card. Otherwise, `fault` is why they aren't
-- a list.
pub data IsSettingsFault (bytes : List ℕ) (fault : DeskFault) : Type 0 where
  InCard : IsTrue (begins_as_card bytes) → (card : CardFault) → IsCardFault bytes card → fault ≡ faults.Card card
      → IsSettingsFault bytes fault
  InList : IsFalse (begins_as_card bytes) → (list : ListFault) → IsListFault bytes list → fault ≡ faults.List list
      → IsSettingsFault bytes fault
