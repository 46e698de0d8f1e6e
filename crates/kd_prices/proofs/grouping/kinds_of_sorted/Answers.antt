use Rattle.kd_prices.proofs.Prelude.{refl}
use Rattle.kd_prices.proofs.Runs.{all_kinds}
use Rattle.std.proofs.lemmas.List.{nil_from_length}
use Rattle.kd_prices.proofs.grouping.kinds_of_sorted.Goals as goal

pub returns-in-Some : goal.returns-in-Some
returns-in-Some g c =
    let both =
    all_kinds g.K.Kind.format c.args.pairs.now c.in-Some.rest.now c.in-Some.pair.now c.push_kinds.new.kinds.items
    c.in-Some.ensures.cases.0 (rw (c.kind_of_one.ensures, c.new-kinds.ensures) at c.push_kinds.ensures) in
    record { expand = both.0; in_order = both.1 }

pub returns-in_default : goal.returns-in_default
returns-in_default g c =
    rw (nil_from_length c.args.pairs.now c.in_default.ensures.cases, c.new-kinds.ensures)
    (record { expand = refl; in_order = λ can. tt })
