use Rattle.std.proofs.Common.{◌≡◌, ◌≤◌, length, map, take}
use Rattle.kd_lost.specs.HeadingLine.{heading_sign}
use Rattle.kd_lost.proofs.heading_line.heading_signs.Given as goal

abbrev pub invariant-loop-byte : goal.invariant-loop-byte
invariant-loop-byte l = (l.signs.bytes ≡ map heading_sign (take l.byte-index l.front))
    × (length l.front ≤ 64)
