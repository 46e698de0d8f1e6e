use Rattle.kd_state.proofs.Prelude.{gets, slice_get_within}
use Rattle.std.proofs.Common.{arith}
use Rattle.kd_state.proofs.machine.seats.are_allowed.Goals as goal

pub returns-then-not-may_hold : goal.returns-then-not-may_hold
returns-then-not-may_hold c = grind (arith, gets, slice_get_within)

pub returns : goal.returns
returns c = grind (arith, gets, slice_get_within)

pub loop-place-preserved : goal.loop-place-preserved
loop-place-preserved c = grind (arith, gets, slice_get_within)
