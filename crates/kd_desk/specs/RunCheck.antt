-- The desk's answer when it checks a card.
-- Test: tests/cases/desk-cards.toml
use Rattle.std.specs.Prelude.{codes, decimal, ◌≡◌, ◌≢◌, ℕ, List, [], ◌∷◌, ◌++◌, length, Result, Err}
use Rattle.kd_state.specs.declared.machine.parts.Parts.{Parts}
use Rattle.kd_state.specs.declared.setting.Setting.{Setting}
use Rattle.kd_state.specs.SheetDay.{Day}
use Rattle.kd_card.specs.declared.fault.CardFault.{CardFault}
use Rattle.kd_card.specs.declared.prices.PriceParts.{PriceParts}
use Rattle.kd_card.specs.CardFault.{IsCardFault}
use Rattle.kd_card.specs.CardText.{IsCard}
use Rattle.kd_card.specs.Proving.{Proves}
use Rattle.kd_card.specs.Shortest.{IsShortest}
use Rattle.kd_prices.specs.declared.doubt.Doubt.{Doubt}
use Rattle.kd_prices.specs.Doubt.{IsDoubt}
use Rattle.kd_desk.specs.declared.fault.DeskFault.{DeskFault}
use Rattle.kd_desk.specs.declared.fault.DeskFault.TheVariants as faults
use Rattle.kd_tables.specs.Ports.{Port}
use Rattle.kd_host.specs.Writing.{WritesText}

-- the line that says that a card with `number` settings is shortest
abbrev pub verdict_text : ℕ → List ℕ
verdict_text number = codes "SHORTEST " ++ decimal number ++ 10 ∷ []

-- The card proves itself, so no shorter list of settings reaches the day. The line that says SHORTEST was written. If
-- the sink failed, only a prefix of this line was written.
pub record IsVerdictWritten (m : Parts) (s : Day) (settings : List Setting) (prices : PriceParts) (sink : Port)
    (answer : Result (Unit {0}) DeskFault)
    : Type 0 where
  pub proves : Proves m s settings prices
  pub shortest : IsShortest m s settings
  pub written : WritesText faults.Device (verdict_text (length settings)) sink answer

-- If the bytes are a card for the day, and the card proves itself, the checker writes the line that says SHORTEST.
-- Otherwise the answer is the first of these faults that applies:
-- - the fault of the card's bytes;
-- - `OtherDay`, if the card is for another day;
-- - the first reason why the card doesn't prove itself.
pub data Checks (m : Parts) (s : Day) (number : ℕ) (bytes : List ℕ) (sink : Port)
    (answer : Result (Unit {0}) DeskFault) : Type 0 where
  NoCard : (fault : CardFault) → IsCardFault bytes fault → answer ≡ Err (faults.Card fault)
      → Checks m s number bytes sink answer
  ForOtherDay : (day : ℕ) (settings : List Setting) (prices : PriceParts) → IsCard bytes day settings prices
      → day ≢ number
      → answer ≡ Err faults.OtherDay → Checks m s number bytes sink answer
  Doubtful : (settings : List Setting) (prices : PriceParts) (doubt : Doubt) → IsCard bytes number settings prices
      → IsDoubt m s settings prices doubt → answer ≡ Err (faults.Doubtful doubt) → Checks m s number bytes sink answer
  Shortest : (settings : List Setting) (prices : PriceParts) → IsCard bytes number settings prices
      → IsVerdictWritten m s settings prices sink answer → Checks m s number bytes sink answer
