use Rattle.kd_desk.proofs.Exclusions.{no_fault, one_fault, one_list}
use Rattle.kd_desk.proofs.laws.bytes_give_one_list_or_one_fault.Goals as goal

pub returns : goal.returns
returns c = record { settings = one_list; no_fault = no_fault; one_fault = one_fault }
