use Rattle.std.proofs.Common.{sym}
use Rattle.kd_tables.proofs.standing.StandingOrd.cmp.Goals as goal

pub returns : goal.returns
returns c = rw (sym c.t1-1.view_is, sym c.t2-1.view_is) (rw c.cmp.ensures at c.or_cmp.ensures)
