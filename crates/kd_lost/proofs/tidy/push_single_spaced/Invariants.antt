use Rattle.std.proofs.Common.{◌≡◌, ◌++◌, drop}
use Rattle.kd_lost.specs.Tidy.{spaced_from}
use Rattle.kd_lost.proofs.tidy.push_single_spaced.Given as goal

abbrev pub invariant-loop-index : goal.invariant-loop-index
invariant-loop-index l = l.fn.bytes.items ++ spaced_from l.words
    ≡ l.bytes.items ++ spaced_from (drop l.index l.words)
