use Rattle.kd_prices.proofs.Prelude.{SFits, ap, length, map, rules, sym, to_z-of_z, w16, ◌∙◌}
use Rattle.kd_prices.proofs.{Runs.refilled, Taking.{all_taken, eq_decides, not_kinds_of, one_more_taken}}
use Rattle.std.proofs.lemmas.List.{length-set}
use Rattle.kd_prices.proofs.kind_prices.prices_of.Goals as goal

pub loop-place-preserved : goal.loop-place-preserved
loop-place-preserved g c =
    let at = c.loop-place in
    let parts = map g.K.Kind.format.kind in
    let price = c.in_ok-prices.field-0 in
    let fits : SFits w16 price = search rules in
    let same = c.take_one.auto.kinds ∙ ap length c.as_mut_slice.ensures.value in (
      rw length-set at.invariant.0,
      rw (to_z-of_z w16 price fits, refilled at.kinds.items c.take_one.new.kinds same)
          (one_more_taken g.K.Kind.format c.args.kinds.items (parts at.kinds.items) _ at.prices _ _
          c.loop-place-test.true (sym c.index-keys-place.is) (at.invariant.0 ∙ sym c.requires.number) at.invariant.1
          price (parts c.take_one.new.kinds) (rw c.as_mut_slice.ensures.value at c.in_ok-prices.ensures)),
    )

pub returns-in_err-prices : goal.returns-in_err-prices
returns-in_err-prices g c =
    let at = c.loop-place in
    let key = c.index-keys-place.result in
    rw c.from_residual.ensures
    (not_kinds_of g.K.Kind.format c.args.kinds.items (map g.K.Kind.format.kind at.kinds.items) _ at.prices _ key
    c.loop-place-test.true (sym c.index-keys-place.is) (at.invariant.0 ∙ sym c.requires.number) at.invariant.1
    _ (λ x. eq_decides g.K.Kind.format g.met.K.Kind.told_apart x key)
    (rw c.as_mut_slice.ensures.value at c.in_err-prices.ensures))

pub returns : goal.returns
returns g c =
    let at = c.loop-place in
    all_taken g.K.Kind.format c.args.kinds.items c.args.keys.now at.prices _ (map g.K.Kind.format.kind at.kinds.items)
    (rw c.requires.number c.requires.kinds) (at.invariant.0 ∙ sym c.requires.number) c.loop-place-test.false
    at.invariant.1
