use Rattle.{kd_sheet.specs.MachineText.machine_text, std.proofs.{Common.{append_assoc, arith}, lemmas.List.append-nil}}
use Rattle.kd_sheet.proofs.machine_writer.rotor_machine_text.Goals as goal

pub returns : goal.returns
unfolding machine_text
returns c = grind (arith, append_assoc, append-nil)
