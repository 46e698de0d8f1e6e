use Rattle.{kd_assign.proofs.Prelude.price_at, std.{proofs.Common.{length, ℕ, ◌-ℤ◌, ◌<◌, ◌≡◌, ◌≤◌}, specs.Int.int_min}}
use Rattle.kd_assign.proofs.growth.lower_prices.Given as goal

abbrev pub invariant-loop-column : goal.invariant-loop-column
invariant-loop-column g l = record {
  len : length l.prices ≡ g.row.N;
  lowered : (j : ℕ) → j < l.column →
      price_at l.prices j ≡ int_min (price_at l.initial.prices j) (price_at l.ceilings j -ℤ l.by);
  still : (j : ℕ) → l.column ≤ j → price_at l.prices j ≡ price_at l.initial.prices j;
}
