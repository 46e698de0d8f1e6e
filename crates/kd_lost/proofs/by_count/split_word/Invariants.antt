use Rattle.std.proofs.Common.{◌≡◌, ◌++◌, drop, take}
use Rattle.kd_lost.specs.ByCount.{first_word, from_blank}
use Rattle.kd_lost.proofs.by_count.split_word.Given as goal

abbrev pub invariant-loop-index : goal.invariant-loop-index
invariant-loop-index l = (first_word l.line ≡ take l.index l.line ++ first_word (drop l.index l.line))
    × (from_blank l.line ≡ from_blank (drop l.index l.line))
