-- The text of each fault of a machine file or key sheet.
use Rattle.std.specs.Prelude.{decimal, ℕ, List, ◌++◌}
use Rattle.kd_tables.specs.declared.refusal.Refusal.TheVariants as refusals
use Rattle.kd_tables.specs.Refusals.{refusal_name, word_after_space}
use Rattle.kd_sheet.specs.Key.{key_name}
use Rattle.kd_sheet.specs.declared.fault.SheetFault.{SheetFault}
use Rattle.kd_sheet.specs.declared.fault.SheetFault.TheVariants as faults

abbrev pub sheet_fault_text : SheetFault → List ℕ
sheet_fault_text faults.NotToml = refusal_name refusals.NotToml
sheet_fault_text faults.UnknownModel = refusal_name refusals.UnknownModel
sheet_fault_text (faults.Missing key) = refusal_name refusals.Missing ++ word_after_space (key_name key)
sheet_fault_text (faults.BadValue key) = refusal_name refusals.BadValue ++ word_after_space (key_name key)
sheet_fault_text faults.LetterTwice = refusal_name refusals.LetterTwice
sheet_fault_text faults.WheelTwice = refusal_name refusals.WheelTwice
sheet_fault_text faults.WheelNotAllowed = refusal_name refusals.WheelNotAllowed
sheet_fault_text (faults.BadRow number) = refusal_name refusals.BadRow ++ word_after_space (decimal number)
sheet_fault_text (faults.DayTwice day) = refusal_name refusals.DayTwice ++ word_after_space (decimal day)
sheet_fault_text faults.NoMemory = refusal_name refusals.NoMemory
