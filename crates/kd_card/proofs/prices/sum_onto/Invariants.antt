use Rattle.std.proofs.Common.{◌≡◌, ◌+◌, ◌*◌, ◌≤◌, take, fold, unsigned_abs, ◌+ℤ◌}
use Rattle.kd_card.proofs.prices.sum_onto.Given as goal

abbrev pub invariant-loop-price : goal.invariant-loop-price
invariant-loop-price l = record {
  value : l.total ≡ fold (λ sum price. sum +ℤ price) l.sum (take l.price-index l.prices);
  bound : unsigned_abs l.total ≤ unsigned_abs l.sum + 9999 * l.price-index;
}
