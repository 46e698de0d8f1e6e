use Rattle.std.proofs.Common.{ap, arith, length}
use Rattle.kd_lost.proofs.Tidying.{tidied_length}
use Rattle.kd_lost.proofs.lines.heading_line.Goals as goal

pub prove-unreachable-requires : goal.prove-unreachable-requires
prove-unreachable-requires c =
    omega (arith, tidied_length c.args.form.now, ap length c.tidied-parts.ensures, c.if-prove.true)
