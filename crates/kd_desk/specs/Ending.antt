-- How the program ends: the line that it writes to standard error, and its exit status.
-- Source: the table of the command line in docs/FORMATS.md.
-- Test: tests/cases/desk-words.toml, tests/cases/desk-program.toml
use Rattle.std.specs.Prelude.{codes, ℕ, List, [], ◌∷◌, ◌++◌, Result, Ok, Err}
use Rattle.kd_tables.specs.Ports.{Port}
use Rattle.kd_host.specs.Ending.{refused_line, EndsWithLine}
use Rattle.kd_host.specs.FileFault.{file_fault_text}
use Rattle.kd_desk.specs.declared.fault.DeskFault.TheVariants as faults
use Rattle.kd_desk.specs.declared.stop.Stop.{Stop}
use Rattle.kd_desk.specs.declared.stop.Stop.TheVariants.{Usage, Unread, ReadFailed, Refused}
use Rattle.kd_desk.specs.FaultText.{desk_fault_text}

-- the line on standard error for each reason to stop
abbrev pub stop_line : Stop → List ℕ
stop_line Usage = codes "usage: desk COMMAND WORDS" ++ 10 ∷ []
stop_line (Unread fault) = refused_line (file_fault_text fault)
stop_line ReadFailed = refused_line (desk_fault_text faults.Device)
stop_line (Refused fault) = refused_line (desk_fault_text fault)

-- the text on standard error: the line for a `Stop`, or nothing after a success
abbrev pub error_text : Result (Unit {0}) Stop → List ℕ
error_text (Ok done) = []
error_text (Err stop) = stop_line stop

-- the exit status: 0 if all went well, 2 for an invalid command line, and 1 for a refusal
abbrev pub status_of : Result (Unit {0}) Stop → ℕ
status_of (Ok done) = 0
status_of (Err Usage) = 2
status_of (Err (Unread fault)) = 1
status_of (Err ReadFailed) = 1
status_of (Err (Refused fault)) = 1

-- The program ends with the line and the exit status for `answer`. If standard error failed, only a prefix of the line
-- was written.
abbrev pub EndsAs : Result (Unit {0}) Stop → Port → ℕ → Type 0
EndsAs answer errors status = EndsWithLine (error_text answer) (status_of answer) errors status
