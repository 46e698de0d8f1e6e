-- The reasons why a command is refused, and the texts of refusals.
-- Test: tests/cases/curator-pages.toml
use Rattle.std.specs.Prelude.{ℕ, ◌+◌, Bool, true, false, List, Option, Some, None, Result, Ok, Err, if◌then◌else◌}
use Rattle.kd_tables.specs.declared.refusal.Refusal.TheVariants as refusals
use Rattle.kd_tables.specs.Refusals.{refusal_name}
use Rattle.kd_tables.specs.declared.ports.write_fault.WriteFault.{WriteFault}
use Rattle.kd_tables.specs.declared.ports.write_fault.WriteFault.TheVariants.{Device, Unwritten}
use Rattle.kd_booklet.specs.declared.fault.DayFault.{DayFault}
use Rattle.kd_booklet.specs.declared.fault.NoPlan.{NoPlan}
use Rattle.kd_booklet.specs.declared.fault.NoPlan.TheVariants as plans
use Rattle.kd_sheet.specs.FaultText.{sheet_fault_text}
use Rattle.kd_sheet.specs.declared.fault.SheetFault.TheVariants.{NoMemory}
use Rattle.kd_form.specs.FaultText.{form_fault_text}
use Rattle.kd_form.specs.declared.fault.FormFault.{FormFault}
use Rattle.kd_form.specs.declared.fault.FormFault.TheVariants as forms
use Rattle.kd_host.specs.FileFault.{file_fault_text}
use Rattle.kd_host.specs.declared.file_fault.FileFault.{FileFault}
use Rattle.kd_new_file.specs.declared.why_unread.WhyUnread.{WhyUnread}
use Rattle.kd_lost.specs.declared.form.DamagedFormFault.{DamagedFormFault}
use Rattle.kd_lost.specs.declared.form.DamagedFormFault.TheVariants as damages
use Rattle.kd_message.specs.declared.booklet.OrderFault.{OrderFault}
use Rattle.kd_spreadsheet.specs.declared.fault.SpreadsheetFault.{SpreadsheetFault}
use Rattle.kd_spreadsheet.specs.declared.fault.SpreadsheetFault.TheVariants as spreadsheets
use Rattle.kd_language.specs.declared.language.Language.{Language}
use Rattle.kd_language.specs.Language.{text_in}
use Rattle.kd_curator.specs.Blame.{blame_on, unread_blame}
use Rattle.kd_curator.specs.declared.blame.Blame.{Blame}
use Rattle.kd_curator.specs.declared.blame.Remark.{Remark}
use Rattle.kd_curator.specs.declared.blame.Remark.TheVariants.{MachineFile, Named, Order}
use Rattle.kd_curator.specs.declared.fault.PageFault.{PageFault}
use Rattle.kd_curator.specs.declared.fault.PageFault.TheVariants as faults
use Rattle.kd_curator.specs.declared.fault.Refused.{Refused}
use Rattle.kd_curator.specs.declared.texts.TheConstants as texts

-- The text of a fault: the refusal's number and name, and then the fault's values, such as a key. If notes or a report
-- explain the fault, the text has words in language `l` instead.
abbrev pub page_fault_text : Language → PageFault → List ℕ
page_fault_text l (faults.Unread fault) = file_fault_text fault
page_fault_text l (faults.File fault) = sheet_fault_text fault
page_fault_text l faults.NoSuchDay = refusal_name refusals.NoSuchDay
page_fault_text l faults.OtherModel = refusal_name refusals.OtherModel
page_fault_text l (faults.Message fault) = form_fault_text fault
page_fault_text l faults.FaultyTable = text_in l texts.FAULTY_TABLE
page_fault_text l faults.FaultyFile = text_in l texts.FAULTY_FILE
page_fault_text l faults.TooManyParts = text_in l texts.TOO_MANY_PARTS
page_fault_text l faults.NotWhole = text_in l texts.NOT_WHOLE
page_fault_text l faults.Device = refusal_name refusals.Device

-- a refusal that names no day, and has no remark on a file
abbrev pub refused_whole : PageFault → Refused
refused_whole fault = record { day = None; blame = None; fault = fault }

-- the refusal if memory ran out while a file other than a message was read
abbrev pub refused_memory : Refused
refused_memory = refused_whole (faults.File NoMemory)

-- a refusal for `fault`, with `remark` on the file at place `place` among the command's files
abbrev pub refused_in : ℕ → Remark → PageFault → Refused
refused_in place remark fault = record { day = None; blame = blame_on place remark; fault = fault }

-- the refusal for the file at place `place` among the command's files, which couldn't be read for the reason `why`
abbrev pub refused_unread : ℕ → FileFault → WhyUnread → Refused
refused_unread place fault why = record { day = None; blame = unread_blame place fault why; fault = faults.Unread fault }

-- The remark on the file that has the fault: the machine file, which is the command's first file, or the order at place
-- `place` among the command's files. `None` if memory ran out.
abbrev pub order_blame : ℕ → FormFault → Option Blame
order_blame place forms.NoMemory = None
order_blame place forms.NotReady = blame_on 0 MachineFile
order_blame place forms.NotOnKey = blame_on 0 MachineFile
order_blame place _ = blame_on place Order

-- The refusal for a fault of an order, or of the machine that enciphers the order. The order is at place `place` among
-- the command's files.
abbrev pub refused_order : ℕ → FormFault → Refused
refused_order place fault = record { day = None; blame = order_blame place fault; fault = faults.Message fault }

-- The refusal for a fault of an order, or of the machine that enciphers or deciphers a message. The order is the
-- command's third file.
abbrev pub refused_message : FormFault → Refused
refused_message fault = refused_order 2 fault

-- the refusal of an order among several; the first order is the command's third file
abbrev pub refused_among : OrderFault → Refused
refused_among fault = refused_order (fault.place + 2) fault.why

-- the fault in the refusal of a day; the argument says why the day can't be planned
abbrev pub fault_of_plan : NoPlan → PageFault
fault_of_plan plans.NoSuchDay = faults.NoSuchDay
fault_of_plan plans.OtherModel = faults.OtherModel

-- The refusal of a day that can't be planned. If the command is for several days (`several`), the refusal names the
-- day.
abbrev pub day_refusal : Bool → DayFault → Refused
day_refusal several fault = record {
  day = if several then Some fault.day else None;
  blame = None;
  fault = fault_of_plan fault.why;
}

abbrev pub is_device_fault : PageFault → Bool
is_device_fault faults.Device = true
is_device_fault _ = false

-- Whether a refusal for this fault comes after output was written: a write failed, or the whole output was written.
abbrev pub comes_after_writing : PageFault → Bool
comes_after_writing faults.Device = true
comes_after_writing faults.FaultyFile = true
comes_after_writing faults.NotWhole = true
comes_after_writing _ = false

-- Whether a refusal for this fault comes after the whole output was written. This output is a report on files, or the
-- page of a form.
abbrev pub is_after_all : PageFault → Bool
is_after_all faults.FaultyFile = true
is_after_all faults.NotWhole = true
is_after_all _ = false

abbrev pub refused_device : Refused
refused_device = refused_whole faults.Device

-- whether the answer is a refusal because of a failed write
abbrev pub is_device : Result (Unit {0}) Refused → Bool
is_device (Ok done) = false
is_device (Err refused) = is_device_fault refused.fault

-- the refusal of a form that isn't read
abbrev pub refused_form : DamagedFormFault → Refused
refused_form damages.NoMemory = refused_memory
refused_form damages.TooManyParts = refused_in 2 Named faults.TooManyParts

-- ---- Whether something was written before a refusal.

-- whether a command is refused after it has written output
abbrev pub has_written : Result (Unit {0}) Refused → Bool
has_written (Ok done) = false
has_written (Err refused) = comes_after_writing refused.fault

-- ---- What inner functions answer. No public contract cites these definitions.

-- the refusal after a call that writes: `Device` if a write failed; otherwise, the first argument
-- turns the call's fault into the refusal
abbrev pub refused_by : {F : Type 0} → (F → Refused) → WriteFault F → Refused
refused_by refused (Unwritten fault) = refused fault
refused_by refused Device = refused_device

-- the refusal of a spreadsheet's table
abbrev pub refused_table : SpreadsheetFault → Refused
refused_table spreadsheets.Refused = refused_in 0 Named faults.FaultyTable
refused_table spreadsheets.NoMemory = refused_memory
