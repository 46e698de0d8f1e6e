use Rattle.kd_prices.proofs.Prelude.{ListsFitAt, ℕ, ◌<◌}
use Rattle.kd_prices.proofs.fitting.first_too_high.Given as goal

abbrev pub invariant-loop-row : goal.invariant-loop-row
invariant-loop-row g l = (i j : ℕ) → i < l.row → j < g.row.N → ListsFitAt l.costs l.rows l.columns i j
