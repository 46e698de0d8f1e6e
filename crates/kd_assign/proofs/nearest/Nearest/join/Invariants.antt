use Rattle.std.proofs.Common.{◌≡◌, ℕ, ◌+◌, ◌≤◌, length, take, count_by, slice_index}
use Rattle.kd_assign.proofs.Prelude.{price_at, AreCompared}
use Rattle.kd_assign.proofs.nearest.Nearest.join.Given as goal

abbrev pub invariant-loop-column : goal.invariant-loop-column
invariant-loop-column g l = record {
  rows : length l.self.row ≡ g.row.N;
  ceilings : length l.self.ceiling ≡ g.row.N;
  compared : AreCompared l.column l.cost l.reached l.row l.level
      l.initial.self.row l.initial.self.ceiling l.self.row l.self.ceiling;
  still_rows : (j : ℕ) → l.column ≤ j → slice_index l.self.row j ≡ slice_index l.initial.self.row j;
  still_ceilings : (j : ℕ) → l.column ≤ j → price_at l.self.ceiling j ≡ price_at l.initial.self.ceiling j;
  counted : l.scans + count_by (λ r. r) (take l.column l.reached) ≡ l.initial.scans + l.column;
}
