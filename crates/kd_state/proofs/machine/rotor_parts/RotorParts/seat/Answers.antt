use Rattle.kd_state.proofs.Wheels.{lacks_wheel}
use Rattle.std.proofs.Common.{arith}
use Rattle.std.proofs.lemmas.Bool.{iff_false}
use Rattle.std.proofs.lemmas.Grind.{common_steps}
use Rattle.kd_state.proofs.machine.rotor_parts.RotorParts.seat.Goals as goal

pub set-requires : goal.set-requires
set-requires c = grind (arith, common_steps)

pub returns-then-not-allowed : goal.returns-then-not-allowed
returns-then-not-allowed c = grind (arith, lacks_wheel, iff_false)
