use Rattle.kd_state.proofs.Prelude.{slice_get_past}
use Rattle.kd_state.proofs.Wheels.{place_nowhere}
use Rattle.std.proofs.Common.{arith}
use Rattle.std.proofs.lemmas.Grind.{elements}
use Rattle.kd_state.proofs.machine.getters.letter_of_wheel.Goals as goal

pub returns-in_err-place_in_box : goal.returns-in_err-place_in_box
returns-in_err-place_in_box c = grind (arith, place_nowhere, slice_get_past)

pub returns : goal.returns
returns c = grind (arith, elements)
