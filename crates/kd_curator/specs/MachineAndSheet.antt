-- The machine in a machine file, the month in a key sheet, and the answers of commands that read these files.
-- Test: tests/cases/curator-pages.toml, tests/cases/curator-files.toml
use Rattle.std.specs.Prelude.{◌≡◌, ◌⊎◌, ℕ, Bool, true, false, List, Option, is_some, Result, Ok, Err, MatchResult}
use Rattle.std.specs.Result.{result_map_both}
use Rattle.toml.specs.Data.{Members}
use Rattle.kd_state.specs.declared.machine.parts.Parts.{Parts}
use Rattle.kd_state.specs.SheetDay.{Day}
use Rattle.kd_sheet.specs.declared.fault.SheetFault.{SheetFault}
use Rattle.kd_sheet.specs.Document.{◌>>=◌, document_of}
use Rattle.kd_sheet.specs.MachineFile.{machine_of}
use Rattle.kd_sheet.specs.SheetFile.{sheet_of}
use Rattle.kd_findings.specs.Kind.{entries_of, is_machine_file}
use Rattle.kd_curator.specs.declared.blame.Remark.{Remark}
use Rattle.kd_curator.specs.declared.blame.Remark.TheVariants.{KeySheet, MachineFile, MachineForSheet, SheetForMachine}
use Rattle.kd_curator.specs.declared.fault.PageFault.TheVariants.{File}
use Rattle.kd_curator.specs.declared.fault.Refused.{Refused}
use Rattle.kd_curator.specs.declared.machine_and_sheet.Needed.{Needed}
use Rattle.kd_curator.specs.declared.machine_and_sheet.Needed.TheVariants as needs
use Rattle.kd_curator.specs.Refusals.{refused_in, refused_memory}

-- The answer is that memory ran out. This answer is always allowed.
abbrev pub LacksMemory : {A : Type 0} → Result A Refused → Type 0
LacksMemory answer = answer ≡ Err refused_memory

-- whether the document is of the wrong sort: a key sheet in place of the needed machine file, or a machine file in
-- place of the needed key sheet
abbrev pub is_other_document : Needed → Members → Bool
is_other_document needs.Machine document = is_some (entries_of document)
is_other_document needs.Sheet document = is_machine_file document

-- whether a document was read without a fault, and satisfies `test`
abbrev pub holds_of : (Members → Bool) → Result Members SheetFault → Bool
holds_of test (Ok document) = test document
holds_of test (Err fault) = false

-- whether the file is of the wrong sort: a key sheet in place of the needed machine file, or a machine file in place of
-- the needed key sheet
unfoldable pub is_other_file : Needed → List ℕ → Bool
is_other_file needed bytes = holds_of (is_other_document needed) (document_of bytes)

-- The remark on a file with a fault. The first argument says whether a machine file or a key sheet is needed. The
-- second says whether the file is of the other sort.
abbrev pub file_remark : Needed → Bool → Remark
file_remark needs.Machine false = MachineFile
file_remark needs.Machine true = SheetForMachine
file_remark needs.Sheet false = KeySheet
file_remark needs.Sheet true = MachineForSheet

-- the refusal for `fault`, the first fault of a file; `place` is the file's place among the command's files
abbrev pub refused_file : Needed → ℕ → List ℕ → SheetFault → Refused
refused_file needed place bytes fault = refused_in place (file_remark needed (is_other_file needed bytes)) (File fault)

abbrev pub or_refused : {A : Type 0} → (SheetFault → Refused) → Result A SheetFault → Result A Refused
or_refused refused read = result_map_both (λ value. value) refused read

-- the machine in a machine file, which is the command's first file; or the refusal for the file's first fault
abbrev pub machine_in : List ℕ → Result Parts Refused
machine_in bytes = or_refused (refused_file needs.Machine 0 bytes) (machine_of bytes)

-- the month in a key sheet, which is at place `place` among the command's files; or the refusal for the sheet's first
-- fault
abbrev pub month_in : ℕ → List ℕ → Result (List (Option Day)) Refused
month_in place bytes = or_refused (refused_file needs.Sheet place bytes) (sheet_of bytes)

-- the machine in a machine file, and the month in a key sheet; or the refusal for the first fault of these two files
unfoldable pub machine_and_month : List ℕ → List ℕ → Result (Parts × List (Option Day)) Refused
machine_and_month machine sheet = do
  m ← machine_in machine
  month ← month_in 1 sheet
  Ok (m, month)

-- One of three cases holds:
-- - A value is found in the files, and the value satisfies `Holds`.
-- - The answer is the refusal for the files' first fault.
-- - The answer is that memory ran out.
abbrev pub IsAnswerOn : {A : Type 0} → Result A Refused → (A → Type 0) → Result (Unit {0}) Refused → Type 0
IsAnswerOn found Holds answer = MatchResult found Holds (λ refused. answer ≡ Err refused) ⊎ LacksMemory answer

-- One of three cases holds:
-- - The two files have a machine and a month, and `Holds` is true for this machine and this month.
-- - The answer is the first fault of the two files.
-- - The answer is that memory ran out.
abbrev pub IsAnswerOnSheet : List ℕ → List ℕ → (Parts → List (Option Day) → Type 0) → Result (Unit {0}) Refused
    → Type 0
IsAnswerOnSheet machine sheet Holds answer =
    IsAnswerOn (machine_and_month machine sheet) (λ found. Holds found.0 found.1) answer
