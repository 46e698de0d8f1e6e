use Rattle.kd_curator_command.proofs.DaysNamed.{day_named-is}
use Rattle.kd_curator_command.proofs.days.day_of.Goals as goal

pub returns : goal.returns
returns c = day_named-is c.args.text.now c.day_of_text.result (rw c.as_bytes.ensures.value at c.day_of_text.ensures)
