use Rattle.std.proofs.Common.{◌≡◌, ℕ, ◌<◌, length, slice_index, pos, ◌-ℤ◌}
use Rattle.kd_assign.proofs.Prelude.{cost_at, price_at}
use Rattle.kd_assign.proofs.columns.row_prices.Given as goal

abbrev pub invariant-loop-row : goal.invariant-loop-row
invariant-loop-row g l = record {
  len : length l.rows ≡ g.row.N;
  priced : (i : ℕ) → i < l.row →
      price_at l.rows i ≡ (pos (cost_at l.cost i (slice_index l.to i)) -ℤ price_at l.prices (slice_index l.to i));
}
