use Rattle.std.proofs.Common.{arith}
use Rattle.std.proofs.lemmas.Grind.{common_steps}
use Rattle.kd_lost.proofs.warnings.known_letters.Goals as goal

pub push-requires : goal.push-requires
push-requires c = grind (arith, common_steps)

pub loop-got-preserved : goal.loop-got-preserved
loop-got-preserved c = grind (arith, common_steps)

pub returns : goal.returns
returns c = grind (arith, common_steps)
