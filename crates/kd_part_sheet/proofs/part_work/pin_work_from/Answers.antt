use Rattle.std.proofs.Common.{arith, length-append}
use Rattle.std.proofs.lemmas.Grind.{common_steps}
use Rattle.kd_part_sheet.proofs.Works.{copied_few, pressed_few}
use Rattle.kd_part_sheet.proofs.part_work.pin_work_from.Goals as goal

pub push_copied-requires-2 : goal.push_copied-requires-2
push_copied-requires-2 c = grind (arith, common_steps, copied_few, pressed_few, length-append)
