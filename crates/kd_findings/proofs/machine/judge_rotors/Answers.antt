use Rattle.std.proofs.Common.{append_assoc, arith}
use Rattle.kd_findings.proofs.machine.judge_rotors.Goals as goal
unfoldable use Rattle.kd_findings.specs.Faults.{rotor_file_faults}

pub returns : goal.returns
unfolding rotor_file_faults
returns c = grind (arith, append_assoc)
