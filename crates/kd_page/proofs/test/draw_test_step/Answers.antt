use Rattle.std.proofs.Common.{arith}
use Rattle.std.proofs.lemmas.Grind.{common_steps}
use Rattle.kd_pictures.proofs.Drawings.{both, joined}
unfoldable use Rattle.kd_page.specs.Test.{test_step}
use Rattle.kd_page.proofs.test.draw_test_step.Goals as goal

pub returns : goal.returns
unfolding test_step
returns g c =
    joined (both (both (both (both (both c.draw_plain_step.ensures c.draw_test_words.ensures) c.draw_test.ensures)
    c.draw_letters_again.ensures) c.draw_again_end.ensures) c.draw_fewest.ensures) c.draw.ensures
    (grind (arith, common_steps))
