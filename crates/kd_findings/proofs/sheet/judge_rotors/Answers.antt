use Rattle.std.proofs.Common.{append_assoc, arith}
use Rattle.kd_findings.proofs.sheet.judge_rotors.Goals as goal
unfoldable use Rattle.kd_findings.specs.SheetFaults.{rotor_day_faults}

pub returns : goal.returns
unfolding rotor_day_faults
returns c = grind (arith, append_assoc)
