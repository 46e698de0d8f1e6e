use Rattle.std.proofs.Common.{sym}
use Rattle.kd_tables.proofs.standing.StandingPartialOrd.partial_cmp.Goals as goal

pub returns : goal.returns
returns c =
    rw (sym c.t1-1.view_is, sym c.t2-1.view_is) (rw c.partial_cmp.ensures at c.or_partial_cmp.ensures)
