use Rattle.kd_prices.proofs.Prelude.{length, map, ◌≡◌}
use Rattle.kd_prices.proofs.Taking.{AreTaken}
use Rattle.kd_prices.proofs.kind_prices.prices_of.Given as goal

abbrev pub invariant-loop-place : goal.invariant-loop-place
invariant-loop-place g l =
    (length l.prices ≡ g.row.N)
    × AreTaken (map g.K.Kind.format.kind l.fn.kinds.items) l.keys l.prices l.place
    (map g.K.Kind.format.kind l.kinds.items)
