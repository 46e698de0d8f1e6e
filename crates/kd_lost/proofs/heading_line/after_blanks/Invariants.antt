use Rattle.std.proofs.Common.{◌≡◌, length}
use Rattle.kd_lost.specs.HeadingLine.{after_blanks}
use Rattle.kd_lost.proofs.heading_line.after_blanks.Given as goal

abbrev pub invariant-loop-left : goal.invariant-loop-left
invariant-loop-left l = after_blanks l.bytes ≡ after_blanks l.left

abbrev pub decreases-loop-left : goal.decreases-loop-left
decreases-loop-left l = length l.left
