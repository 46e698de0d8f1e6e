use Rattle.kd_prices.proofs.Prelude.{columns_of, map, pair_in_order, take, ◌≡◌}
use Rattle.kd_prices.proofs.kind_keys.columns_of.Given as goal

abbrev pub invariant-loop-place : goal.invariant-loop-place
invariant-loop-place l = l.columns.items ≡ map pair_in_order (take l.place (columns_of l.pairs))
