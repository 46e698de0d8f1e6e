use Rattle.std.proofs.Common.{append_assoc, arith}
use Rattle.kd_findings.proofs.sheet.judge_converter.Goals as goal
unfoldable use Rattle.kd_findings.specs.SheetFaults.{pin_day_faults}

pub returns : goal.returns
unfolding pin_day_faults
returns c = grind (arith, append_assoc)
