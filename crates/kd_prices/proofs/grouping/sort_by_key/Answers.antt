use Rattle.kd_prices.proofs.Prelude.{rules}
use Rattle.std.proofs.lemmas.{Cmp.nat_list_cmp_total, List.Sorted.{answers_always, ranks_by}}
use Rattle.kd_prices.proofs.grouping.sort_by_key.Goals as goal

pub returns : goal.returns
returns g c =
    let order = g.K.Kind.format.order in
    let ranks = ranks_by nat_list_cmp_total (λ pair. order pair.0) in
    let compares = answers_always _ _ _ (λ f a r q k. search rules) in record {
      permutation = c.sort_unstable_by.ensures.permutation;
      sorted = c.sort_unstable_by.ensures.sorted _ ranks compares;
    }
