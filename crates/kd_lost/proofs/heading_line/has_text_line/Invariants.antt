use Rattle.std.proofs.Common.{◌≡◌, drop}
use Rattle.kd_lost.specs.HeadingLine.{has_text_line}
use Rattle.kd_lost.proofs.heading_line.has_text_line.Given as goal

abbrev pub invariant-loop-index : goal.invariant-loop-index
invariant-loop-index l = has_text_line l.bytes ≡ has_text_line (drop l.index l.bytes)
