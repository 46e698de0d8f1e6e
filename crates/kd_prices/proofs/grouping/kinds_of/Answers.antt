use Rattle.kd_prices.proofs.Prelude.{IsPermutation, ap, length, ◌∙◌, ◌≡◌}
use Rattle.kd_prices.proofs.Runs.{can_be_kinds, refilled}
use Rattle.kd_prices.proofs.grouping.kinds_of.Goals as goal

pub returns : goal.returns
returns g c =
    let pairs = c.args.pairs.items in
    let sorted = c.as_slice.result.now in
    let same : sorted ≡ c.sort_by_key.new.pairs =
    c.as_slice.ensures.value ∙ refilled _ _ (c.sort_by_key.auto.pairs ∙ ap length c.as_mut_slice.ensures.value) in
    let moved : IsPermutation pairs sorted =
    rw same
    (rw c.as_mut_slice.ensures.value at c.sort_by_key.ensures.permutation) in
    record {
      expand = rw c.kinds_of_sorted.ensures.expand moved;
      in_order = λ one fine.
          c.kinds_of_sorted.ensures.in_order
          (can_be_kinds g.K.Kind.format pairs sorted moved (rw same c.sort_by_key.ensures.sorted) one fine);
    }
