-- A month on one machine: the cards and machine files of its days, and what these cards and files guarantee. Each day
-- has a card, and a machine file for the machine after the card's settings.
-- Test: tests/guide
use Rattle.std.specs.Prelude.{◌≡◌, ◌⊎◌, ℕ, List, [], ◌∷◌, false, Option, Some, Result, Ok, IfOk}
use Rattle.std.specs.List.{AllZip}
use Rattle.kd_tables.specs.Ports.{Port}
use Rattle.kd_state.specs.declared.machine.parts.Parts.{Parts}
use Rattle.kd_state.specs.declared.setting.Setting.{Setting}
use Rattle.kd_state.specs.SheetDay.{Day}
use Rattle.kd_card.specs.Months.{IsProvedCard}
use Rattle.kd_card.specs.Shortest.{IsShortest}
use Rattle.kd_plan.specs.Spares.{SparesStayFree}
use Rattle.kd_sheet.specs.MachineFile.{machine_of}
use Rattle.kd_sheet.specs.Sheet.{day_of}
use Rattle.kd_sheet.specs.SheetFile.{sheet_of}
use Rattle.kd_desk.specs.declared.fault.DeskFault.{DeskFault}
use Rattle.kd_state.specs.SheetsMachine.{IsSheetsMachine}
use Rattle.kd_desk.specs.OnDay.{IsAnswerOnDay, machine_and_day}
use Rattle.kd_desk.specs.RunApply.{Applies}
use Rattle.kd_desk.specs.RunCard.{IsChosenCard, Prints}
use Rattle.kd_desk.specs.CallAnswers.{LacksMemory}
use Rattle.kd_desk.specs.Settings.{AreSettings}

-- Two texts for a day: a card, and the file of the machine that the card's settings lead to.
pub record CardAndFile : Type 0 where
  pub card : List ℕ
  pub file : List ℕ

-- a sink that was empty before a call, and has taken exactly `text` in the call
abbrev pub sink_with : List ℕ → Port
sink_with text = record { had = Some []; has = Some text; had_failed = false; has_failed = false }

abbrev pub success : Result (Unit {0}) DeskFault
success = Ok tt

-- For day `number`, `run_card` writes the card from the machine file `file`. `run_apply` writes the next machine file
-- from `file` and this card.
pub record AreWritten (file sheet : List ℕ) (number : ℕ) (papers : CardAndFile) : Type 0 where
  pub printed : IsAnswerOnDay file sheet number
      (λ m s. Prints (IsChosenCard m s number) m s number (sink_with papers.card) success) success
  pub applied : IfOk (machine_of file)
      (λ m. Applies m papers.card (sink_with papers.file) success ⊎ LacksMemory success)

-- Cards and machine files are written for one day after another. Each card starts from the machine of the previous
-- machine file.
abbrev pub AreWrittenInTurn : List ℕ → List ℕ → List ℕ → List CardAndFile → Type 0
AreWrittenInTurn file sheet [] [] = Unit {0}
AreWrittenInTurn file sheet (number ∷ numbers) (papers ∷ more) =
    AreWritten file sheet number papers × AreWrittenInTurn papers.file sheet numbers more
AreWrittenInTurn file sheet numbers papers = ⊥

-- The card's settings lead from the machine of `file` to the machine of `papers.file`. This machine is set as day
-- `number` says, shows the day's letters, and enciphers as the day asks. Spare cables stay free. No shorter list of
-- settings leads to the day. Some valid prices, not always the card's own, prove this.
pub record SetTheMachine (file sheet : List ℕ) (number : ℕ) (papers : CardAndFile) : Type 0 where
  pub m : Parts
  pub s : Day
  pub found : machine_and_day file sheet number ≡ Ok (m, s)
  pub settings : List Setting
  pub of_card : AreSettings papers.card settings
  pub shortest : IsShortest m s settings
  pub spares : SparesStayFree m s settings
  pub n : Parts
  pub proved : IsProvedCard m s settings n
  pub of_next : machine_of papers.file ≡ Ok n
  pub sheets : IsSheetsMachine n s

-- For each day in turn, the day's card and machine file set the machine to the day, as `SetTheMachine` says.
abbrev pub SetTheMachineInTurn : List ℕ → List ℕ → List ℕ → List CardAndFile → Type 0
SetTheMachineInTurn file sheet [] [] = Unit {0}
SetTheMachineInTurn file sheet (number ∷ numbers) (papers ∷ more) =
    SetTheMachine file sheet number papers × SetTheMachineInTurn papers.file sheet numbers more
SetTheMachineInTurn file sheet numbers papers = ⊥

-- For each of `numbers`, in order, `days` has the month's day with this number.
abbrev pub AreDaysOf : List (Option Day) → List ℕ → List Day → Type 0
AreDaysOf month numbers days = AllZip (λ number s. day_of month number ≡ Some s) numbers days

-- For each card in `papers`, in order, `cards` has the settings of this card.
abbrev pub AreCardsOf : List CardAndFile → List (List Setting) → Type 0
AreCardsOf papers cards = AllZip (λ paper settings. AreSettings paper.card settings) papers cards

-- Cards and machine files for the days `numbers` can be written, one day after another.
abbrev pub CanWriteDays : Parts → List (Option Day) → List ℕ → Type 0
CanWriteDays m month numbers = (file sheet : List ℕ) → machine_of file ≡ Ok m → sheet_of sheet ≡ Ok month
    → (papers : List CardAndFile) × AreWrittenInTurn file sheet numbers papers
