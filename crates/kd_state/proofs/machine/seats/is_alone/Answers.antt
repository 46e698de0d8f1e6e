use Rattle.std.proofs.Common.{arith}
use Rattle.std.proofs.lemmas.Grind.{elements}
use Rattle.kd_state.proofs.machine.seats.is_alone.Goals as goal

pub loop-other-preserved : goal.loop-other-preserved
loop-other-preserved c = grind (arith, elements)

pub returns-then-eq : goal.returns-then-eq
returns-then-eq c = grind (arith, elements)

pub returns : goal.returns
returns c = grind (arith, elements)
