use Rattle.kd_desk.proofs.Months.{months_set_the_machine}
use Rattle.kd_desk.proofs.laws.months_set_the_machine.Goals as goal

pub returns : goal.returns
returns c = months_set_the_machine
