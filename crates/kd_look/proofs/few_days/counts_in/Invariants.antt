use Rattle.std.proofs.Common.{◌≡◌}
use Rattle.std.specs.List.{flat_map, range_with_len}
use Rattle.kd_look.specs.Warnings.{counts_on}
use Rattle.kd_look.proofs.few_days.counts_in.Given as goal

-- the days with the numbers so far
abbrev pub invariant-loop-index : goal.invariant-loop-index
invariant-loop-index l = l.days.items ≡ flat_map (counts_on l.sheet) (range_with_len 1 l.index)
