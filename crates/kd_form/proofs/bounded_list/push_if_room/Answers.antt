use Rattle.kd_form.proofs.Prelude.{arith, take_all, take-append-le, length-append}
use Rattle.kd_form.proofs.bounded_list.push_if_room.Goals as goal

pub returns-then-not-is_full : goal.returns-then-not-is_full
returns-then-not-is_full g c = grind (arith, take_all, length-append)

pub returns-else-not-is_full : goal.returns-else-not-is_full
returns-else-not-is_full g c = grind (arith, take-append-le, take_all)
