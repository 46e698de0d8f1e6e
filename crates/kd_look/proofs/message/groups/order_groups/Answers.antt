use Rattle.std.proofs.Common.{arith}
use Rattle.kd_look.specs.Groups.{order_group}
use Rattle.kd_findings.proofs.Ranges.{one_more}
use Rattle.kd_look.proofs.message.groups.order_groups.Goals as goal

pub loop-index-preserved : goal.loop-index-preserved
loop-index-preserved c =
    let more = one_more (order_group c.args.text.now c.args.keys) 0 c.loop-index.index in grind (arith, more)
