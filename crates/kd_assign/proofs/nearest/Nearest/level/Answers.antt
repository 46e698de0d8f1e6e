use Rattle.kd_assign.proofs.AllRows.{cost_at_most}
use Rattle.kd_assign.proofs.Differences.{IsSmall-cost, SFits-difference, difference-exact}
use Rattle.kd_assign.proofs.Prelude.{cost_at, ints, price_at}
use Rattle.std.proofs.Common.{arith, pos, refl}
use Rattle.kd_assign.proofs.nearest.Nearest.level.Goals as goal

pub overflow_sub-result : goal.overflow_sub-result
overflow_sub-result g c =
    let cost = cost_at_most c.args.cost.now c.requires.costs c.args.row c.args.column in
    rw c.from.ensures
    (SFits-difference (price_at c.args.self.now.ceiling c.args.column)
    (pos (cost_at c.args.cost.now c.args.row c.args.column)) (c.requires.low, c.requires.high) (IsSmall-cost _ cost))

pub returns : goal.returns
returns g c =
    let cost = cost_at_most c.args.cost.now c.requires.costs c.args.row c.args.column in
    let exact =
    difference-exact (price_at c.args.self.now.ceiling c.args.column)
    (pos (cost_at c.args.cost.now c.args.row c.args.column)) (c.requires.low, c.requires.high) (IsSmall-cost _ cost) in
    rw (c.from.ensures, exact) (record {
      low = omega (arith, ints, cost, c.requires.low);
      high = omega (arith, ints, c.requires.high);
      value = refl;
    })
