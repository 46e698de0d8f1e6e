use Rattle.kd_prices.proofs.{Prelude.{SFits, map, rules, to_z-of_z, w16}, Taking.{takes_first, takes_later}}
use Rattle.kd_prices.proofs.kind_prices.+take_one.Goals as goal

pub returns-then-has_one_left : goal.returns-then-has_one_left
returns-then-has_one_left g t c =
    let kind = g.K.Kind.format.kind c.in_ok-kinds.kind.now in
    let holds = c.has_one_left.ensures.0 c.if-has_one_left.true in
    let fits : SFits w16 c.parts-parts.result.price = search rules in
    let price = to_z-of_z w16 c.parts-parts.result.price fits in
    rw (c.in_ok-kinds.ensures.cases.0, c.of.ensures, price, c.parts-parts.ensures)
    (takes_first c.args.key.now kind (map g.K.Kind.format.kind c.in_ok-kinds.rest.now) holds.0 holds.1)

pub returns-else-has_one_left : goal.returns-else-has_one_left
returns-else-has_one_left g t c =
    let parts = g.K.Kind.format.kind in
    rw c.in_ok-kinds.ensures.cases.0
    (takes_later c.args.key.now (parts c.in_ok-kinds.kind.now) (map parts c.in_ok-kinds.rest.now)
    c.take_one.result (map parts c.take_one.new.kinds)
    (λ here. let one = c.has_one_left.ensures.1 here in cc) c.take_one.ensures)
