use Rattle.std.proofs.Common.{◌≡◌, ◌++◌, drop, take}
use Rattle.kd_lost.specs.DamagedPart.{first_line}
use Rattle.kd_lost.specs.Tidy.{from_line_end}
use Rattle.kd_lost.proofs.tidy.line_and_rest.Given as goal

abbrev pub invariant-loop-index : goal.invariant-loop-index
invariant-loop-index l = (first_line l.part ≡ take l.index l.part ++ first_line (drop l.index l.part))
    × (from_line_end l.part ≡ from_line_end (drop l.index l.part))
