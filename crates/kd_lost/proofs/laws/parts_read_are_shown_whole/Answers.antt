use Rattle.kd_lost.proofs.WholeParts.{numbers_there, shown_whole}
use Rattle.kd_lost.proofs.laws.parts_read_are_shown_whole.Goals as goal

pub returns : goal.returns
returns c = record { shown = shown_whole; numbers = numbers_there }
