use Rattle.std.proofs.Common.{arith}
use Rattle.std.proofs.lemmas.Grind.{common_steps}
use Rattle.kd_state.proofs.machine.on_key.+have_rings.Goals as goal

pub returns-then-eq : goal.returns-then-eq
returns-then-eq t c = grind (arith, common_steps)

pub returns-in-empty : goal.returns-in-empty
returns-in-empty t c = grind (arith, common_steps)
