use Rattle.std.proofs.Common.{arith}
use Rattle.std.proofs.lemmas.Grind.{common_steps}
use Rattle.kd_pictures.proofs.Drawings.{both, joined}
use Rattle.kd_printed_sheet.proofs.key_list.+draw_lines.Goals as goal

pub returns-in-len1-up : goal.returns-in-len1-up
returns-in-len1-up g t c =
    joined (both (both c.draw_bar.ensures c.draw_pins.ensures) c.draw.ensures) c.draw_lines.ensures (grind
    (arith, common_steps))
