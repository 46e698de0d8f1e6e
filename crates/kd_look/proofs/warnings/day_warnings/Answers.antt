use Rattle.kd_look.proofs.warnings.day_warnings.Goals as goal

pub returns-in-Machine : goal.returns-in-Machine
returns-in-Machine c = rw c.in-Machine.is c.new.ensures.bytes
