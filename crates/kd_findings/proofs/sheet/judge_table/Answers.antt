use Rattle.std.proofs.Common.{arith}
use Rattle.std.proofs.lemmas.Grind.{common_steps}
use Rattle.kd_findings.proofs.sheet.judge_table.Goals as goal
unfoldable use Rattle.kd_findings.specs.SheetFaults.{table_faults}

pub returns : goal.returns
unfolding table_faults
returns c = grind (arith, common_steps)
