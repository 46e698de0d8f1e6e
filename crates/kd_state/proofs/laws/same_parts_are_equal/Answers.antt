use Rattle.kd_state.proofs.Wheels.{same_reflector-Decides, same_wheel-Decides}
use Rattle.kd_state.proofs.laws.same_parts_are_equal.Goals as goal

pub returns : goal.returns
returns c = (same_wheel-Decides, same_reflector-Decides)
