use Rattle.{std.proofs.Common.{◌≡◌, ℕ, ◌<◌, length, slice_index}, kd_assign.proofs.Prelude.IsColumnTakenBy}
use Rattle.kd_assign.proofs.columns.columns_of_rows.Given as goal

abbrev pub invariant-loop-column : goal.invariant-loop-column
invariant-loop-column g l = record {
  len : length l.columns ≡ g.row.N;
  written : (i j : ℕ) → j < l.column → IsColumnTakenBy l.holders j i
      → IsColumnTakenBy l.holders (slice_index l.columns i) i;
}
