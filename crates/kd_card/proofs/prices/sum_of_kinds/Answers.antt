use Rattle.kd_card.proofs.OneCard.{arith, to_z-of_z, ◌∙◌}
use Rattle.std.proofs.Common.{rules, w32}
use Rattle.kd_card.proofs.prices.sum_of_kinds.Goals as goal

pub prices_of_kinds-rows-requires-clause-kinds : goal.prices_of_kinds-rows-requires-clause-kinds
prices_of_kinds-rows-requires-clause-kinds g c = rw c.as_slice.ensures.value c.requires.rows.in_order

pub prices_of_kinds-rows-requires-clause-few : goal.prices_of_kinds-rows-requires-clause-few
prices_of_kinds-rows-requires-clause-few g c =
    rw c.as_slice.ensures.value (omega (arith, c.requires.rows.count, c.requires.few))

pub prices_of_kinds-columns-requires-clause-kinds :
    goal.prices_of_kinds-columns-requires-clause-kinds
prices_of_kinds-columns-requires-clause-kinds g c = rw c.as_slice-2.ensures.value c.requires.columns.in_order

pub prices_of_kinds-columns-requires-clause-few : goal.prices_of_kinds-columns-requires-clause-few
prices_of_kinds-columns-requires-clause-few g c =
    rw c.as_slice-2.ensures.value (omega (arith, c.requires.columns.count, c.requires.few))

pub sum_of_prices-requires-clause-rows : goal.sum_of_prices-requires-clause-rows
sum_of_prices-requires-clause-rows g c =
    rw (c.as_slice-3.ensures.value, c.prices_of_kinds-rows.ensures.items) c.prices_of_kinds-rows.ensures.list.in_range

pub sum_of_prices-requires-clause-columns : goal.sum_of_prices-requires-clause-columns
sum_of_prices-requires-clause-columns g c =
    rw (c.as_slice-4.ensures.value, c.prices_of_kinds-columns.ensures.items)
    c.prices_of_kinds-columns.ensures.list.in_range

pub sum_of_prices-requires-clause-few_rows : goal.sum_of_prices-requires-clause-few_rows
sum_of_prices-requires-clause-few_rows g c =
    let count = rw c.as_slice.ensures.value at c.prices_of_kinds-rows.ensures.list.count in
    rw (c.as_slice-3.ensures.value, c.prices_of_kinds-rows.ensures.items, c.as_slice.ensures.value)
    (omega (arith, count, c.requires.rows.count, c.requires.few))

pub sum_of_prices-requires-clause-few_columns : goal.sum_of_prices-requires-clause-few_columns
sum_of_prices-requires-clause-few_columns g c =
    let count = rw c.as_slice-2.ensures.value at c.prices_of_kinds-columns.ensures.list.count in
    rw (c.as_slice-4.ensures.value, c.prices_of_kinds-columns.ensures.items, c.as_slice-2.ensures.value)
    (omega (arith, count, c.requires.columns.count, c.requires.few))

pub returns : goal.returns
returns g c =
    to_z-of_z w32 c.sum_of_prices.result (search rules)
    ∙ (rw (
      c.as_slice-3.ensures.value,
      c.as_slice-4.ensures.value,
      c.prices_of_kinds-rows.ensures.items,
      c.prices_of_kinds-columns.ensures.items,
      c.as_slice.ensures.value,
      c.as_slice-2.ensures.value,
    )
    at c.sum_of_prices.ensures)
