use Rattle.kd_prices.proofs.Prelude.{arith, get_or, ints, pos, rules, to_z-of_z, w16, w32, ◌+ℤ◌}
use Rattle.kd_prices.proofs.fitting.fits_at_column.Goals as goal

pub returns : goal.returns
returns c =
    let one = to_z-of_z w32 c.from.result (search rules) in
    let other = to_z-of_z w32 c.from-2.result (search rules) in
    let cost = to_z-of_z w32 c.from-3.result (search rules) in
    let price = to_z-of_z w16 c.args.price c.ranges.price in
    let there = to_z-of_z w16 (get_or c.args.columns.now c.args.column (pos 0)) (search rules) in
    let sum = to_z-of_z w32 (c.from.result +ℤ c.from-2.result) (first_of (search rules, grind (arith, ints))) in
    rw (one, other, cost, sum) (grind (arith, ints), grind (arith, ints))
