use Rattle.std.proofs.Common.{arith}
use Rattle.std.proofs.lemmas.Grind.{common_steps}
use Rattle.kd_pictures.proofs.Drawings.{both, joined}
unfoldable use Rattle.kd_message.specs.ClashWords.{clash_paragraph}
use Rattle.kd_message.proofs.clash_words.draw_clash_paragraph.Goals as goal

pub returns : goal.returns
unfolding clash_paragraph
returns g c =
    joined (both (both (both c.draw_in.ensures c.draw_clash.ensures) c.draw_in-2.ensures) c.draw_headings.ensures)
    c.draw_in-3.ensures
    (grind (arith, common_steps))
