-- The text of each `FormFault`: why a typed text, an order or a form is refused.
use Rattle.std.specs.Prelude.{decimal, ℕ, List, ◌++◌}
use Rattle.kd_tables.specs.declared.refusal.Refusal.TheVariants as refusals
use Rattle.kd_tables.specs.Refusals.{refusal_name, word_after_space}
use Rattle.kd_form.specs.declared.fault.FormFault.{FormFault}
use Rattle.kd_form.specs.declared.fault.FormFault.TheVariants as faults

-- the text of a fault: the refusal's number and name, and then the fault's details, such as a position or a part's
-- number
abbrev pub form_fault_text : FormFault → List ℕ
form_fault_text faults.NotReady = refusal_name refusals.NotReady
form_fault_text faults.Device = refusal_name refusals.Device
form_fault_text faults.NoMemory = refusal_name refusals.NoMemory
form_fault_text faults.NotOnKey = refusal_name refusals.NotOnKey
form_fault_text (faults.BadByte position) = refusal_name refusals.BadByte ++ word_after_space (decimal position)
form_fault_text faults.EmptyText = refusal_name refusals.EmptyText
form_fault_text (faults.PartKeys needed given) =
    refusal_name refusals.PartKeys ++ word_after_space (decimal needed) ++ word_after_space (decimal given)
form_fault_text faults.KeyNotOnWheel = refusal_name refusals.KeyNotOnWheel
form_fault_text (faults.WrongGroup part) = refusal_name refusals.WrongGroup ++ word_after_space (decimal part)
form_fault_text (faults.IndicatorSpent part) = refusal_name refusals.IndicatorSpent ++ word_after_space (decimal part)
form_fault_text (faults.BadHeading part) = refusal_name refusals.BadHeading ++ word_after_space (decimal part)
form_fault_text (faults.CountWrong part) = refusal_name refusals.PartCountWrong ++ word_after_space (decimal part)
form_fault_text (faults.IndicatorsDiffer part) = refusal_name refusals.IndicatorsDiffer
    ++ word_after_space (decimal part)
form_fault_text faults.PartOrder = refusal_name refusals.PartOrder
form_fault_text faults.ReadTooLong = refusal_name refusals.ReadTooLong
