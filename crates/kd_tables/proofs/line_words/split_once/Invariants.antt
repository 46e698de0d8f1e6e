use Rattle.std.proofs.Common.{◌≢◌}
use Rattle.std.specs.List.{AllWithin}
use Rattle.kd_tables.proofs.line_words.split_once.Given as goal

abbrev pub invariant-loop-end : goal.invariant-loop-end
invariant-loop-end l = AllWithin (λ other. other ≢ l.byte) l.text 0 l.end
