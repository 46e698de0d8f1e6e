use Rattle.std.proofs.lemmas.Grind.{common_steps}
use Rattle.kd_card.proofs.OneCard.{KindOf, arith, ap, take, length, length-append, length-replicate, length_of_kinds}
use Rattle.kd_card.proofs.OneCard.{kind_price_list, refl, rules, to_z, of_z, total_count_within, w16, ◌∙◌}
use Rattle.kd_card.proofs.kinds.prices_of_kinds.Goals as goal

pub push-requires : goal.push-requires
push-requires g c =
    let format = g.K.Kind.format in
    let at = c.loop-kind.kind-index in
    let within = total_count_within format c.args.kinds.now at c.loop-kind-test.true c.kind-item.is in
    let before = ap length c.loop-kind.invariant in
    let now = ap length c.loop.invariant ∙ length-append c.loop-kind.prices.items _ in
    let more = length-replicate c.loop.counter (to_z w16 (of_z w16 c.parts-count.result.price)) in
    let count = ap (λ (k : KindOf _). k.count) c.parts-count.ensures in
    (search rules, omega (arith, length_of_kinds format (take at c.args.kinds.now), c.requires.few))

pub returns-clause-list : goal.returns-clause-list
returns-clause-list g c = kind_price_list _ _ _ (record { in_order = c.requires.kinds; count = refl })

pub returns-clause-items : goal.returns-clause-items
returns-clause-items g c = grind (arith, common_steps)

pub loop-kind-preserved : goal.loop-kind-preserved
loop-kind-preserved g c = grind (arith, common_steps)

pub loop-preserved : goal.loop-preserved
loop-preserved g c = grind (arith, common_steps)
