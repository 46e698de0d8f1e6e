use Rattle.kd_pictures.proofs.Drawings.{both}
unfoldable use Rattle.kd_pictures.specs.Wheels.{one_band}
use Rattle.kd_pictures.proofs.wheels.draw_one.Goals as goal

pub returns : goal.returns
unfolding one_band
returns g c =
    both (both (both (both c.draw_in.ensures c.draw_words.ensures) c.draw.ensures) c.draw_band.ensures)
    c.draw-2.ensures
