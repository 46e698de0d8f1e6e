use Rattle.std.proofs.Common.{arith}
use Rattle.std.proofs.lemmas.Grind.{elements}
use Rattle.kd_state.proofs.machine.seats.are_seated_once.Goals as goal

pub returns : goal.returns
returns c = grind (arith, elements)

pub loop-place-preserved : goal.loop-place-preserved
loop-place-preserved c = grind (arith, elements)

pub returns-then-not-is_alone : goal.returns-then-not-is_alone
returns-then-not-is_alone c = grind (arith, elements)
