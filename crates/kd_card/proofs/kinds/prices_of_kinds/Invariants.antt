use Rattle.kd_card.proofs.OneCard.{prices_of_kinds}
use Rattle.std.proofs.Common.{◌≡◌, ◌++◌, replicate, take}
use Rattle.kd_card.proofs.kinds.prices_of_kinds.Given as goal

abbrev pub invariant-loop-kind : goal.invariant-loop-kind
invariant-loop-kind g l = l.prices.items ≡ prices_of_kinds g.K.Kind.format (take l.kind-index l.kinds)

abbrev pub invariant-loop : goal.invariant-loop
invariant-loop g l = l.prices.items ≡ l.initial.prices.items ++ replicate l.counter l.price
