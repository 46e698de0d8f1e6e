use Rattle.kd_prices.proofs.{ByKind.bars_by_kind, Prelude.{refl, rules}}
use Rattle.kd_state.specs.Entry.{pin_values}
use Rattle.kd_prices.proofs.kind_cards.bar_prices_by_kind.Goals as goal

pub returns : goal.returns
returns c =
    bars_by_kind c.args.parts.now (pin_values c.args.entry.now) c.args.rows.now c.args.columns.now
    c.kinds_of.result.items c.kinds_of-2.result.items c.requires.machine c.requires.day c.requires.prices refl
    (rw c.with_prices.ensures at c.kinds_of.ensures) (rw c.with_prices-2.ensures at c.kinds_of-2.ensures) _
    (rw (c.as_slice.ensures.value, c.as_slice-2.ensures.value) at c.bar_kinds.ensures) (search rules)
