use Rattle.std.proofs.Common.{arith}
use Rattle.std.proofs.lemmas.Grind.{common_steps}
use Rattle.kd_pictures.proofs.Drawings.{joined}
use Rattle.kd_printed_sheet.proofs.EffectivePins.{first_pin}
use Rattle.kd_printed_sheet.proofs.csv_table.+draw_effective.Goals as goal

pub returns-in-len1-up-pins : goal.returns-in-len1-up-pins
returns-in-len1-up-pins g t c =
    joined c.draw_if.ensures c.draw_effective.ensures (grind (arith, common_steps, first_pin))
