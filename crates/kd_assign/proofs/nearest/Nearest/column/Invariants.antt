use Rattle.std.proofs.Common.{◌≡◌, ℕ, ◌<◌, false, IfSome, IsSomeAnd, ◌≤ℤ◌}
use Rattle.kd_assign.proofs.Prelude.{has_column, room_at}
use Rattle.kd_assign.proofs.nearest.Nearest.column.Given as goal

abbrev pub invariant-loop-column : goal.invariant-loop-column
invariant-loop-column g l = record {
  within : IfSome l.least (λ k. k < g.row.N);
  outside : IfSome l.least (λ k. has_column l.reached k ≡ false);
  least : (j : ℕ) → j < l.column → has_column l.reached j ≡ false →
      IsSomeAnd l.least (λ k. room_at l.self.ceiling l.prices k ≤ℤ room_at l.self.ceiling l.prices j);
}
