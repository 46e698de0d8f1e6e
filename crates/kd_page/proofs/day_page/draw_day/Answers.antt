use Rattle.kd_pictures.proofs.Drawings.{both}
unfoldable use Rattle.kd_page.specs.DayPage.{day_text}
use Rattle.kd_page.proofs.day_page.draw_day.Goals as goal

pub returns : goal.returns
unfolding day_text
returns g c =
    both (both (both c.draw_day_head.ensures c.draw_steps.ensures) c.draw_test_step.ensures) c.draw.ensures
