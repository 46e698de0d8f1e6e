use Rattle.std.proofs.Common.{arith}
use Rattle.std.proofs.lemmas.Grind.{common_steps}
unfoldable use Rattle.kd_lost.specs.HeadingLine.{right_signs}
use Rattle.kd_lost.proofs.heading_line.+right_signs.Goals as goal

pub returns-clause-signs : goal.returns-clause-signs
unfolding right_signs
returns-clause-signs t c = grind (arith, common_steps)

pub returns-2-clause-signs : goal.returns-2-clause-signs
unfolding right_signs
returns-2-clause-signs t c = grind (arith, common_steps)

pub slice_bounds-word-count : goal.slice_bounds-word-count
slice_bounds-word-count t c = omega arith

pub slice_bounds-word-start : goal.slice_bounds-word-start
slice_bounds-word-start t c = omega arith

pub slice_bounds-word-end : goal.slice_bounds-word-end
slice_bounds-word-end t c = omega arith

pub slice_bounds-bytes-count : goal.slice_bounds-bytes-count
slice_bounds-bytes-count t c = omega arith

pub slice_bounds-bytes-start : goal.slice_bounds-bytes-start
slice_bounds-bytes-start t c = omega arith

pub slice_bounds-bytes-end : goal.slice_bounds-bytes-end
slice_bounds-bytes-end t c = omega arith

pub returns-2-clause-few : goal.returns-2-clause-few
returns-2-clause-few t c = omega arith

pub overflow_add-result : goal.overflow_add-result
overflow_add-result t c = grind (arith, common_steps)

pub returns-clause-few : goal.returns-clause-few
returns-clause-few t c = grind (arith, common_steps)
