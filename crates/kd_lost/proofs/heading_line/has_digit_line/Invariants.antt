use Rattle.std.proofs.Common.{◌≡◌, drop}
use Rattle.kd_lost.specs.HeadingLine.{has_digit_line}
use Rattle.kd_lost.proofs.heading_line.has_digit_line.Given as goal

abbrev pub invariant-loop-byte : goal.invariant-loop-byte
invariant-loop-byte l = has_digit_line l.bytes ≡ has_digit_line (drop l.byte-index l.bytes)
