use Rattle.std.proofs.Common.{◌≡◌, length}
use Rattle.kd_lost.specs.HeadingLine.{after_word}
use Rattle.kd_lost.proofs.heading_line.after_word.Given as goal

abbrev pub invariant-loop-left : goal.invariant-loop-left
invariant-loop-left l = after_word l.bytes ≡ after_word l.left

abbrev pub decreases-loop-left : goal.decreases-loop-left
decreases-loop-left l = length l.left
