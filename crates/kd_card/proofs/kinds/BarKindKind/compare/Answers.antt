use Rattle.kd_tables.proofs.Orders.{standing_order, then_equal}
use Rattle.std.proofs.Common.{arith, ◌∙◌}
use Rattle.kd_card.proofs.kinds.BarKindKind.compare.Goals as goal

pub returns : goal.returns
returns c = c.cmp.ensures ∙ grind (arith, then_equal, standing_order c.args.one.now c.args.other.now)
