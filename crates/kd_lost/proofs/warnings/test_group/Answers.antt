use Rattle.std.proofs.Common.{refl, arith}
use Rattle.kd_lost.specs.DamagedText.{GroupRight, GroupWrong}
use Rattle.kd_lost.proofs.warnings.test_group.Goals as goal

pub returns-then-has_group : goal.returns-then-has_group
returns-then-has_group c = GroupRight c.in-Some.letters.items c.in-Some.ensures (grind arith) refl

pub returns-else-has_group : goal.returns-else-has_group
returns-else-has_group c = GroupWrong c.in-Some.letters.items c.in-Some.ensures (grind arith) refl
