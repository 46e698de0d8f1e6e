use Rattle.std.proofs.Common.{arith}
use Rattle.std.proofs.lemmas.Grind.{common_steps}
use Rattle.kd_lost.proofs.body.+push_covered.Goals as goal

pub push-requires : goal.push-requires
push-requires t c = grind (arith, common_steps)

pub push_covered-requires : goal.push_covered-requires
push_covered-requires t c = grind (arith, common_steps)

pub returns-in-len1-up-text : goal.returns-in-len1-up-text
returns-in-len1-up-text t c = grind (arith, common_steps)

pub returns-else-received-lt1 : goal.returns-else-received-lt1
returns-else-received-lt1 t c = grind (arith, common_steps)
