use Rattle.std.proofs.Common.{arith, take_all}
use Rattle.std.proofs.lemmas.Grind.{common_steps}
use Rattle.kd_slips.proofs.counts.few_lines.Goals as goal

pub loop-day-preserved : goal.loop-day-preserved
loop-day-preserved c = grind (arith, common_steps)

pub returns : goal.returns
returns c = grind (arith, take_all)
