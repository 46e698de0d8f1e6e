-- The notes on standard error, which are written before the program's answer is known. The command `sheet` writes notes
-- on a table, and the command `receive` on a form. No other command writes notes.
-- Test: tests/cases/curator-sheet.toml, tests/cases/curator-messages.toml
use Rattle.std.specs.Prelude.{◌≡◌, ℕ, false, List, Option, None, Some, Result, Ok, Err, IsErr}
use Rattle.kd_tables.specs.Ports.{Port}
use Rattle.kd_tables.specs.declared.direction.Direction.{Direction}
use Rattle.kd_tables.specs.declared.direction.Direction.TheVariants.{Receive, Send}
use Rattle.kd_language.specs.declared.language.Language.{Language}
use Rattle.kd_sheet.specs.Sheet.{day_of}
use Rattle.kd_spreadsheet.specs.Notes.{HasNotesOn, Tells, TellsText}
use Rattle.kd_options.specs.TableOptions.{OptionTexts}
use Rattle.kd_spreadsheet.specs.declared.fault.SpreadsheetFault.{SpreadsheetFault}
use Rattle.kd_spreadsheet.specs.declared.fault.SpreadsheetFault.TheVariants as spreadsheets
use Rattle.kd_curator_command.specs.CommandLine.{NamedCommand}
use Rattle.kd_curator_command.specs.declared.command.Command.TheVariants as commands
use Rattle.kd_curator.specs.Files.{text_at}
use Rattle.kd_curator.specs.MachineAndSheet.{IsAnswerOnSheet}
use Rattle.kd_curator.specs.Refusals.{has_written}
use Rattle.kd_curator.specs.RunReceive.{TellsOfForm}
use Rattle.kd_curator.specs.declared.fault.PageFault.{PageFault}
use Rattle.kd_curator.specs.declared.fault.PageFault.TheVariants as faults
use Rattle.kd_curator.specs.declared.fault.Refused.{Refused}

-- During the call, nothing was written to the port, and the port didn't fail.
pub record IsLeftAlone (p : Port) : Type 0 where
  pub same : p.has ≡ p.had
  pub failed : p.has_failed ≡ p.had_failed

-- ---- On a table.

-- If a fault of making a key sheet is the reason for the refusal, this fault. Otherwise `None`.
abbrev pub noted_fault_for : PageFault → Option SpreadsheetFault
noted_fault_for faults.FaultyTable = Some spreadsheets.Refused
noted_fault_for (faults.File fault) = Some spreadsheets.NoMemory
noted_fault_for fault = None

-- why the command `sheet` with this answer makes no key sheet; `None` if the table means days
abbrev pub noted_fault : Result (Unit {0}) Refused → Option SpreadsheetFault
noted_fault (Ok done) = None
noted_fault (Err refused) = noted_fault_for refused.fault

-- The notes of the command `sheet` on `table`, in language `l`. `answer` is the command's answer.
pub record HasTableNotes (l : Language) (options : OptionTexts) (table : List ℕ) (answer : Result (Unit {0}) Refused)
    (errors : Port) : Type 0 where
  pub noted : HasNotesOn l options table (noted_fault answer) errors
  pub tells : Tells errors

-- ---- On a form.

-- The notes of the command `receive` on `form`, in language `l`. `answer` is the command's answer. `machine` and
-- `sheet` are the bytes of the machine file and the key sheet. `number` is the day's number.
pub record HasFormNotes (l : Language) (machine sheet : List ℕ) (number : ℕ) (form : List ℕ)
    (answer : Result (Unit {0}) Refused) (errors : Port) : Type 0 where
  pub noted : IsAnswerOnSheet machine sheet
      (λ m month. TellsOfForm l (day_of month number) m form (TellsText errors) answer) answer
  pub quiet : IsErr answer → has_written answer ≡ false → IsLeftAlone errors
  pub tells : Tells errors

-- ---- Of any command.

-- The notes of a command for a message. An order has no notes.
abbrev pub HasMessageNotes : Direction → Language → List ℕ → List ℕ → ℕ → List ℕ → Result (Unit {0}) Refused → Port
    → Type 0
HasMessageNotes Send l machine sheet number order answer errors = IsLeftAlone errors
HasMessageNotes Receive l machine sheet number form answer errors =
    HasFormNotes l machine sheet number form answer errors

-- The notes of the command, in language `l`. `texts` are the bytes of the command's files, in the order of the files.
-- `answer` is the command's answer.
abbrev pub HasNotes : Language → NamedCommand → List (List ℕ) → Result (Unit {0}) Refused → Port → Type 0
HasNotes l (commands.Sheet table options) texts answer errors =
    HasTableNotes l options (text_at texts 0) answer errors
HasNotes l (commands.Message machine sheet message task) texts answer errors =
    HasMessageNotes task.direction l (text_at texts 0) (text_at texts 1) task.day (text_at texts 2) answer errors
HasNotes l command texts answer errors = IsLeftAlone errors
