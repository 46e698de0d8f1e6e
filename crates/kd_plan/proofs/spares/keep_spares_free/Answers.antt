use Rattle.kd_plan.{proofs.Planning.{costs_no_more, one_to_one_still, still_free}, specs.Spares.is_spare_at}
use Rattle.std.proofs.Common.{arith, get_or, length, rules, true, ◌-◌, ◌<◌, ◌≡◌, ◌≤◌}
use Rattle.kd_plan.proofs.spares.keep_spares_free.Goals as goal

pub loop-spare-preserved-then-from-pairs : goal.loop-spare-preserved-then-from-pairs
loop-spare-preserved-then-from-pairs c =
    let empty : is_spare_at c.args.cables.now (c.loop-spare.spare - 1) ≡ true = search rules in
    let taken : get_or c.loop-spare.to (c.loop-spare.spare - 1) 0 < length c.args.pairs.now = search rules in
    let free : length c.args.pairs.now ≤ get_or c.loop-spare.to c.in-Some.place 0 = search rules in
    record {
      one_to_one = one_to_one_still _ _ c.swap.ensures.permutation c.swap.ensures.len c.loop-spare.invariant.one_to_one;
      cost =
          let least = costs_no_more c.args.cables.now c.args.pairs.now _ _ _ _ c.type_inv.cables (search rules)
          c.loop-spare.invariant.one_to_one c.swap.ensures.by_index (search rules) (search rules) empty taken
          free in omega arith;
      free = still_free c.args.cables.now _ _ _ _ _ c.swap.ensures.by_index (search rules) free
          (λ k low. c.loop-spare.invariant.free k (omega arith));
    }
