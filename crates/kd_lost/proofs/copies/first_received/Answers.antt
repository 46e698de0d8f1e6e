use Rattle.std.proofs.Common.{arith}
use Rattle.std.proofs.lemmas.Grind.{elements}
use Rattle.kd_lost.proofs.copies.first_received.Goals as goal

pub returns-in-Some : goal.returns-in-Some
returns-in-Some c = grind (arith, elements)

pub loop-got-preserved : goal.loop-got-preserved
loop-got-preserved c = grind (arith, elements)

pub returns : goal.returns
returns c = grind (arith, elements)
