use Rattle.kd_state.proofs.Wheels.{lacks_wheel}
use Rattle.std.proofs.Common.{arith}
use Rattle.kd_state.proofs.machine.rotor_parts.RotorParts.ring_to.Goals as goal

pub returns-in_err-place : goal.returns-in_err-place
returns-in_err-place c = grind (arith, lacks_wheel)
