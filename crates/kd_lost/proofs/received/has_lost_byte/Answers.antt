use Rattle.std.proofs.Common.{arith}
use Rattle.std.proofs.lemmas.Grind.{elements}
use Rattle.kd_lost.proofs.received.has_lost_byte.Goals as goal

pub returns-then-is_lost-clause-lost : goal.returns-then-is_lost-clause-lost
returns-then-is_lost-clause-lost c = grind (arith, elements)

pub loop-byte-preserved : goal.loop-byte-preserved
loop-byte-preserved c = grind (arith, elements)

pub returns-clause-none : goal.returns-clause-none
returns-clause-none c = grind (arith, elements)
