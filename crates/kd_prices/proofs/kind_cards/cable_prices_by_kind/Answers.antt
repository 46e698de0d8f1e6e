use Rattle.kd_prices.proofs.{ByKind.cables_by_kind, Prelude.rules}
use Rattle.kd_state.specs.Entry.{rotor_values}
use Rattle.kd_prices.proofs.kind_cards.cable_prices_by_kind.Goals as goal

pub returns : goal.returns
returns c =
    let columns =
    rw (c.with_prices-2.ensures, c.as_slice-3.ensures.value, c.columns_of-pairs.ensures.value, c.as_slice.ensures.value)
    at c.kinds_of-2.ensures in
    cables_by_kind c.args.parts.now (rotor_values c.args.entry.now) c.args.rows.now c.args.columns.now
    c.kinds_of.result.items c.kinds_of-2.result.items c.requires.machine c.requires.day c.requires.prices
    c.requires.model (rw c.with_prices.ensures at c.kinds_of.ensures) columns _
    (rw (c.as_slice-2.ensures.value, c.as_slice-4.ensures.value) at c.cable_kinds.ensures) (search rules)
