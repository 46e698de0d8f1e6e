use Rattle.std.proofs.Common.{◌≡◌, drop}
use Rattle.kd_lost.specs.Tidy.{later_heading}
use Rattle.kd_lost.proofs.tidy.later_heading.Given as goal

abbrev pub invariant-loop-index : goal.invariant-loop-index
invariant-loop-index l = later_heading l.bytes ≡ later_heading (drop l.index l.bytes)
