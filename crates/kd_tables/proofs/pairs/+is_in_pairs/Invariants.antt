use Rattle.std.proofs.Common.{length}
use Rattle.kd_tables.proofs.pairs.+is_in_pairs.Given as goal

abbrev pub decreases-is_in_pairs : goal.decreases-is_in_pairs
decreases-is_in_pairs l = length l.pairs.now
