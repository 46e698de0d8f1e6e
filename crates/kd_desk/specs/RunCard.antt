-- The card that the desk writes, and the card's promises.
-- Code: `print_card` plans the card with `plan`, gives it prices by kind with `by_kind`, and writes it with
-- `write_card`.
-- Test: tests/cases/desk-cards.toml
use Rattle.std.specs.Prelude.{◌≡◌, ◌≢◌, ℕ, List, Result, Err, IsErr, IsTrue}
use Rattle.kd_state.specs.declared.machine.parts.Parts.{Parts}
use Rattle.kd_state.specs.declared.setting.Setting.{Setting}
use Rattle.kd_state.specs.Machine.{model_of}
use Rattle.kd_state.specs.Setting.{Leads}
use Rattle.kd_state.specs.SheetsMachine.{IsSheetsMachine}
use Rattle.kd_state.specs.SheetDay.{Day, day_model}
use Rattle.kd_card.specs.declared.prices.PriceParts.{PriceParts}
use Rattle.kd_card.specs.CardText.{IsCard, card_text}
use Rattle.kd_card.specs.Proving.{Proves}
use Rattle.kd_card.specs.Shortest.{ShowShortest, IsShortest}
use Rattle.kd_plan.specs.Planned.{IsPlannedCard}
use Rattle.kd_plan.specs.Spares.{SparesStayFree}
use Rattle.kd_desk.specs.declared.fault.DeskFault.{DeskFault}
use Rattle.kd_desk.specs.declared.fault.DeskFault.TheVariants.{Device, OtherModel}
use Rattle.kd_desk.specs.EquallySet.{EquallySetDecipherOn}
use Rattle.kd_tables.specs.Ports.{Port}
use Rattle.kd_host.specs.Writing.{WritesText}

-- A shortest card: its settings turn the machine into one that is set as the day says, and enciphers as the day asks.
-- No shorter list leads to the day, and the card's prices show this. `deciphers` doesn't depend on the card: machines
-- that are equally set for the day decipher each other's texts.
pub record IsShortestCard (machine : Parts) (day : Day) (settings : List Setting) (prices : PriceParts) : Type 0 where
  pub leaves : (after : Parts) × Leads machine settings after × IsSheetsMachine after day
  pub shortest : IsShortest machine day settings
  pub shown : ShowShortest machine day settings prices
  pub deciphers : EquallySetDecipherOn day

-- A card that satisfies `Promise` was written for day `number`. If the sink failed, only a prefix of the card was
-- written.
pub record WritesCard (Promise : List Setting → PriceParts → Type 0) (number : ℕ) (sink : Port)
    (answer : Result (Unit {0}) DeskFault) : Type 0 where
  pub settings : List Setting
  pub prices : PriceParts
  pub promise : Promise settings prices
  pub written : WritesText Device (card_text number settings prices) sink answer
  pub failure : IsErr answer → IsTrue sink.has_failed

-- One of two things holds:
-- - The machine and the day are of different models, and the answer is `OtherModel`.
-- - A card that satisfies `Promise` was written, as `WritesCard` says.
pub data Prints (Promise : List Setting → PriceParts → Type 0) (machine : Parts) (day : Day) (number : ℕ) (sink : Port)
    (answer : Result (Unit {0}) DeskFault) : Type 0 where
  Different : model_of machine ≢ day_model day → answer ≡ Err OtherModel
      → Prints Promise machine day number sink answer
  Card : WritesCard Promise number sink answer → Prints Promise machine day number sink answer

-- ---- Which of several shortest cards the planner chooses.

-- A shortest card for day `number`, as the planner chooses it. Its values are valid, and it proves itself. Its lines
-- carry out a cheapest assignment, in the planner's order, and leave spare cables free.
pub record IsChosenCard (machine : Parts) (day : Day) (number : ℕ) (settings : List Setting) (prices : PriceParts)
    : Type 0 where
  pub shortest : IsShortestCard machine day settings prices
  pub card : IsCard (card_text number settings prices) number settings prices
  pub proves : Proves machine day settings prices
  pub planned : IsPlannedCard machine day settings proves.numbered
  pub spares : SparesStayFree machine day settings
