use Rattle.kd_pictures.proofs.Drawings.{both}
unfoldable use Rattle.kd_pictures.specs.Wheels.{both_bands}
use Rattle.kd_pictures.proofs.wheels.draw_both.Goals as goal

pub returns : goal.returns
unfolding both_bands
returns g c =
    both (both (both (both (both (both (both c.draw_in.ensures c.draw_words.ensures) c.draw_in-2.ensures)
    c.draw_words-2.ensures) c.draw.ensures) c.draw_band.ensures) c.draw_band-2.ensures) c.draw-2.ensures
