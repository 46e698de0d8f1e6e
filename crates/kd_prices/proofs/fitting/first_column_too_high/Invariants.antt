use Rattle.kd_prices.proofs.Prelude.{FitsAtColumn, ℕ, ◌<◌}
use Rattle.kd_prices.proofs.fitting.first_column_too_high.Given as goal

abbrev pub invariant-loop-column : goal.invariant-loop-column
invariant-loop-column l = (j : ℕ) → j < l.column → FitsAtColumn l.costs l.price l.columns j
