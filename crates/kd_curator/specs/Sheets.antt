-- What the command `sheet` writes, and when the command refuses.
-- Test: tests/cases/curator-sheet.toml
use Rattle.std.specs.Prelude.{◌≡◌, ℕ, List, Result, Ok, Err, OnOk}
use Rattle.kd_tables.specs.Ports.{Port}
use Rattle.kd_host.specs.Writing.{WritesText}
use Rattle.kd_state.specs.SheetDay.{Day}
use Rattle.kd_sheet.specs.Sheet.{month_of}
use Rattle.kd_sheet.specs.SheetFile.{sheet_of}
use Rattle.kd_sheet.specs.SheetText.{sheet_text}
use Rattle.kd_options.specs.TableOptions.{OptionTexts}
use Rattle.kd_spreadsheet.specs.Table.{IsRefusedTable, TableMeans}
use Rattle.kd_curator.specs.MachineAndSheet.{LacksMemory}
use Rattle.kd_curator.specs.Refusals.{refused_device, refused_in}
use Rattle.kd_curator.specs.declared.blame.Remark.TheVariants.{Named}
use Rattle.kd_curator.specs.declared.fault.PageFault.TheVariants.{FaultyTable}
use Rattle.kd_curator.specs.declared.fault.Refused.{Refused}

-- The cases of the command `sheet`, for a table:
-- - `Sheet`: the key sheet with the days of the table was written. If the sink failed, only a prefix of the key sheet
--   was written. If the whole key sheet was written, reading the key sheet gives these days.
-- - `Faulty`: the table is refused.
-- - `NoMemory`: memory ran out.
pub data MakesSheet (options : OptionTexts) (table : List ℕ) (sink : Port) (answer : Result (Unit {0}) Refused)
    : Type 0 where
  Sheet : (days : List Day) → TableMeans options table days
      → OnOk answer (sheet_of (sheet_text days) ≡ Ok (month_of days))
      → WritesText refused_device (sheet_text days) sink answer → MakesSheet options table sink answer
  Faulty : IsRefusedTable options table → answer ≡ Err (refused_in 0 Named FaultyTable)
      → MakesSheet options table sink answer
  NoMemory : LacksMemory answer → MakesSheet options table sink answer
