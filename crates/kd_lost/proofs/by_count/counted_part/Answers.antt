use Rattle.std.proofs.Common.{arith}
use Rattle.std.proofs.lemmas.Grind.{common_steps}
use Rattle.kd_lost.proofs.by_count.counted_part.Goals as goal

pub returns : goal.returns
returns c = grind (arith, common_steps)

pub slice_bounds-push_all-end : goal.slice_bounds-push_all-end
slice_bounds-push_all-end c = grind (arith, common_steps)
