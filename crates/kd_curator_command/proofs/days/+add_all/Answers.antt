use Rattle.std.proofs.Common.{arith}
use Rattle.kd_curator_command.proofs.DaysNamed.{adds_next, adds_no_more, adds_same}
use Rattle.kd_curator_command.proofs.days.+add_all.Goals as goal

pub returns : goal.returns
returns t c = adds_next _ _ _ _ _ _ _ (omega arith) (c.in_ok-add.ensures) c.add_all.ensures

pub returns-in_err-add : goal.returns-in_err-add
returns-in_err-add t c = rw c.from_residual.ensures (adds_no_more _ _ _ c.add.new.self c.requires c.in_err-add.ensures)

pub returns-then-first-last : goal.returns-then-first-last
returns-then-first-last t c = adds_same _ _ _ _ tt c.if-first-last.true c.in_ok-add.ensures
