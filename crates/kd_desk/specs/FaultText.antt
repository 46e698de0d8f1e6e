-- The text of each `DeskFault`. A fault that comes from another crate, such as a card's fault, keeps its text.
-- Test: says_why_it_refuses
use Rattle.std.specs.Prelude.{ℕ, List}
use Rattle.kd_tables.specs.declared.refusal.Refusal.TheVariants as refusals
use Rattle.kd_tables.specs.Refusals.{refusal_name}
use Rattle.kd_state.specs.FaultText.{illegal_at_text, list_fault_text}
use Rattle.kd_card.specs.FaultText.{card_fault_text}
use Rattle.kd_prices.specs.FaultText.{doubt_text}
use Rattle.kd_sheet.specs.FaultText.{sheet_fault_text}
use Rattle.kd_form.specs.FaultText.{form_fault_text}
use Rattle.kd_desk.specs.declared.fault.DeskFault.{DeskFault}
use Rattle.kd_desk.specs.declared.fault.DeskFault.TheVariants as faults

abbrev pub desk_fault_text : DeskFault → List ℕ
desk_fault_text (faults.File fault) = sheet_fault_text fault
desk_fault_text (faults.List fault) = list_fault_text fault
desk_fault_text (faults.Card fault) = card_fault_text fault
desk_fault_text (faults.Illegal fault) = illegal_at_text fault
desk_fault_text faults.OtherModel = refusal_name refusals.OtherModel
desk_fault_text faults.Device = refusal_name refusals.Device
desk_fault_text faults.ReadTooLong = refusal_name refusals.ReadTooLong
desk_fault_text faults.NoSuchDay = refusal_name refusals.NoSuchDay
desk_fault_text faults.OtherDay = refusal_name refusals.OtherDay
desk_fault_text (faults.Doubtful doubt) = doubt_text doubt
desk_fault_text (faults.Message fault) = form_fault_text fault
