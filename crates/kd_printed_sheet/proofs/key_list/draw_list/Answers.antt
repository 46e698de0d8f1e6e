use Rattle.std.proofs.Common.{arith}
use Rattle.std.proofs.lemmas.Grind.{common_steps}
use Rattle.kd_pictures.proofs.Drawings.{both, joined}
unfoldable use Rattle.kd_printed_sheet.specs.KeyList.{key_list}
use Rattle.kd_printed_sheet.proofs.key_list.draw_list.Goals as goal

pub returns : goal.returns
unfolding key_list
returns g c =
    joined (both (both (both (both (both (both (both c.fill_in.ensures c.draw_letters.ensures) c.draw_in.ensures)
    c.draw_lines.ensures) c.draw_in-2.ensures) c.draw_fives.ensures) c.draw_in-3.ensures) c.draw_words.ensures)
    c.draw.ensures (grind (arith, common_steps))
