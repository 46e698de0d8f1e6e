use Rattle.kd_prices.proofs.Prelude.{SFits, arith, false≢true, rules, sym, to_z-of_z, w16, ◌∙◌}
use Rattle.kd_prices.proofs.Runs.{appends_one, begins_another, counts_more}
use Rattle.std.proofs.lemmas.List.{nil_from_length}
use Rattle.kd_prices.proofs.grouping.+push_kinds.Goals as goal

pub returns-in_default : goal.returns-in_default
returns-in_default g t c =
    rw (nil_from_length c.args.pairs.now c.in_default.ensures.cases)
    (appends_one g.K.Kind.format c.args.kind c.requires.some (omega arith) c.args.kinds.now.items
    c.push.new.self.items c.of.result c.of.ensures c.push.ensures.items)

pub returns-then-is_of_kind : goal.returns-then-is_of_kind
returns-then-is_of_kind g t c =
    let kind = c.args.kind in
    let fits : SFits w16 kind.price = search rules in
    rw c.in-Some.ensures.cases.0
    (counts_more g.K.Kind.format kind c.requires.some (omega arith) c.args.kinds.now.items
    c.push_kinds.new.kinds.items c.in-Some.pair.now c.in-Some.rest.now
    (c.is_of_kind.ensures.0 c.if-is_of_kind.true)
    (rw (to_z-of_z w16 kind.price fits) at c.push_kinds.ensures))

pub returns-else-is_of_kind : goal.returns-else-is_of_kind
returns-else-is_of_kind g t c =
    rw c.in-Some.ensures.cases.0
    (begins_another g.K.Kind.format c.args.kind c.requires.some (omega arith) c.args.kinds.now.items
    c.push_kinds-else-is_of_kind.new.kinds.items g.met.K.Kind.told_apart c.of-else-is_of_kind.result
    c.in-Some.pair.now c.in-Some.rest.now c.of-else-is_of_kind.ensures
    (λ is. false≢true (sym c.if-is_of_kind.false ∙ c.is_of_kind.ensures.1 is))
    (rw (c.kind_of_one.ensures, c.push-else-is_of_kind.ensures.items) at c.push_kinds-else-is_of_kind.ensures))
