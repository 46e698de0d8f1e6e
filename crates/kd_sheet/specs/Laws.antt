-- The laws of machine files and key sheets. A written machine is read back. A day is legal exactly if some entry of a
-- key sheet describes the day.
use Rattle.std.specs.Prelude.{◌≡◌, ◌↔◌, ℕ, List, [], ◌∷◌, Contains, Some, Ok}
use Rattle.toml.specs.Data.{Data}
use Rattle.kd_state.specs.declared.machine.parts.Parts.{Parts}
use Rattle.kd_state.specs.Machine.{IsLegal, IsMachine, with_cables_in_order}
use Rattle.kd_state.specs.SheetDay.{Day, IsLegalDay, day_number}
use Rattle.kd_sheet.specs.Document.{read_items}
use Rattle.kd_sheet.specs.MachineFile.{machine_of}
use Rattle.kd_sheet.specs.MachineText.{machine_text}
use Rattle.kd_sheet.specs.Sheet.{day_of, month_of}
use Rattle.kd_sheet.specs.SheetFile.{day_for, sheet_of}
use Rattle.kd_sheet.specs.SheetText.{AreSheetDays, sheet_text}

-- If legal parts are written to a file, it is read as the same parts, but with each cable's letters in alphabetical
-- order.
abbrev pub LegalPartsAreReadBack : Type 0
LegalPartsAreReadBack = (m : Parts) → IsLegal m → machine_of (machine_text m) ≡ Ok (with_cables_in_order m)

-- If a machine is written to a file, this file is read as the same machine.
abbrev pub WrittenFilesAreReadBack : Type 0
WrittenFilesAreReadBack = (m : Parts) → IsMachine m → machine_of (machine_text m) ≡ Ok m

-- If one or more legal days with different numbers are written as a sheet, the sheet is read as exactly these days.
abbrev pub WrittenSheetsAreReadBack : Type 0
WrittenSheetsAreReadBack = (day : Day) (days : List Day) → AreSheetDays [] (day ∷ days)
    → sheet_of (sheet_text (day ∷ days)) ≡ Ok (month_of (day ∷ days))

-- A day is legal exactly if a key sheet with only one entry can describe this day.
abbrev pub LegalDaysAreDescribed : Type 0
LegalDaysAreDescribed = (day : Day) → IsLegalDay day ↔ ((entry : Data) × (day_for [] entry ≡ Ok day))

-- Suppose that a key sheet is read without a fault. Then the sheet's day `number` is `day` exactly if `day` has this
-- number, and one of the sheet's entries describes `day`.
abbrev pub DaysAreTheEntries : Type 0
DaysAreTheEntries = (entries : List Data) (days : List Day) (number : ℕ) (day : Day)
    → read_items day_for entries ≡ Ok days
    → (day_of (month_of days) number ≡ Some day)
    ↔ ((entry : Data) × Contains entries entry × (day_for [] entry ≡ Ok day) × (day_number day ≡ number))
