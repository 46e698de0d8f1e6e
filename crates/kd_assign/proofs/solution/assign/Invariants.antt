use Rattle.std.proofs.Common.{◌≡◌, ◌*◌, ◌≤◌, length}
use Rattle.kd_assign.proofs.{Prelude.IsSolvedUpTo, ScanCounts.scans_of_trees}
use Rattle.kd_assign.proofs.solution.assign.Given as goal

abbrev pub invariant-loop-row : goal.invariant-loop-row
invariant-loop-row g l = record {
  len : length l.col ≡ g.row.N;
  least_scans : g.row.N * l.row ≤ l.scans;
  most_scans : l.scans ≤ scans_of_trees g.row.N l.row;
  solved : IsSolvedUpTo g.row.N l.cost l.col l.holders l.row;
}
