use Rattle.std.proofs.Common.{◌≡◌, ◌+◌, ◌-◌, length, count_by}
use Rattle.kd_assign.proofs.{GrownTree.IsGrownTree, Prelude.scans_of_tree, Prelude.IsSolvedUpTo}
use Rattle.kd_assign.proofs.growth.assign_row.Given as goal

abbrev pub invariant-loop-holders : goal.invariant-loop-holders
invariant-loop-holders g l = record {
  prices : length l.prices ≡ g.row.N;
  rows : length l.nearest.row ≡ g.row.N;
  ceilings : length l.nearest.ceiling ≡ g.row.N;
  solved : IsSolvedUpTo g.row.N l.cost l.prices l.holders l.root;
  grown : IsGrownTree g.row.N l.cost l.prices l.holders l.root l.reached l.nearest.ceiling l.nearest.row l.plans;
  scans : l.scans ≡ l.fn.scans + scans_of_tree g.row.N (count_by (λ r. r) l.reached + 1);
}

abbrev pub decreases-loop-holders : goal.decreases-loop-holders
decreases-loop-holders g l = length l.reached - count_by (λ r. r) l.reached
