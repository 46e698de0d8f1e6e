-- How a call finds a machine in a machine file, and a day in a key sheet.
-- Test: tests/cases/desk-program.toml
use Rattle.std.specs.Prelude.{◌≡◌, ◌⊎◌, ℕ, List, Result, Ok, Err, MatchResult, ok_or}
use Rattle.std.specs.Result.{result_map_both}
use Rattle.kd_state.specs.declared.machine.parts.Parts.{Parts}
use Rattle.kd_state.specs.SheetDay.{Day}
use Rattle.kd_sheet.specs.declared.fault.SheetFault.{SheetFault}
use Rattle.kd_sheet.specs.Document.{◌>>=◌}
use Rattle.kd_sheet.specs.MachineFile.{machine_of}
use Rattle.kd_sheet.specs.Sheet.{day_of}
use Rattle.kd_sheet.specs.SheetFile.{sheet_of}
use Rattle.kd_desk.specs.declared.fault.DeskFault.{DeskFault}
use Rattle.kd_desk.specs.declared.fault.DeskFault.TheVariants.{File, NoSuchDay}
use Rattle.kd_desk.specs.CallAnswers.{LacksMemory}

abbrev pub or_file_fault : {A : Type 0} → Result A SheetFault → Result A DeskFault
or_file_fault read = result_map_both (λ value. value) File read

-- the machine of a machine file, and day `number` of a key sheet; or the first fault, such as `NoSuchDay`
unfoldable pub machine_and_day : List ℕ → List ℕ → ℕ → Result (Parts × Day) DeskFault
machine_and_day machine sheet number = do
  m ← or_file_fault (machine_of machine)
  month ← or_file_fault (sheet_of sheet)
  day ← ok_or (day_of month number) NoSuchDay
  Ok (m, day)

-- One of three things holds:
-- - The machine and the day are found, and they satisfy `Holds`.
-- - The machine or the day can't be found, and the answer is the first fault.
-- - The answer is `NoMemory`.
abbrev pub IsAnswerOnDay : List ℕ → List ℕ → ℕ → (Parts → Day → Type 0) → Result (Unit {0}) DeskFault → Type 0
IsAnswerOnDay machine sheet number Holds answer =
    MatchResult (machine_and_day machine sheet number) (λ found. Holds found.0 found.1) (λ fault. answer ≡ Err fault)
    ⊎ LacksMemory answer
