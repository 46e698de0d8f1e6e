use Rattle.kd_prices.proofs.Prelude.{drop, length, zip, ◌++◌, ◌≡◌}
use Rattle.kd_prices.proofs.kind_keys.with_prices.Given as goal

abbrev pub invariant-loop-place : goal.invariant-loop-place
invariant-loop-place g l =
    (length l.pairs.items ≡ l.place)
    × (l.pairs.items ++ zip (drop l.place l.keys) (drop l.place l.prices) ≡ zip l.keys l.prices)
