use Rattle.std.proofs.Common.{refl}
use Rattle.kd_pictures.proofs.Drawings.{both, joined}
unfoldable use Rattle.kd_page.specs.Test.{test_text}
use Rattle.kd_page.proofs.test.draw_test.Goals as goal

pub returns : goal.returns
unfolding test_text
returns g c =
    let keys = c.test_keys-keys.ensures in
    let lamps = c.enciphered.ensures in
    joined (both (both c.draw_fives.ensures c.draw.ensures) c.draw_fives-2.ensures) c.draw_test_end.ensures
    (rw (← keys, ← lamps, ← c.model.ensures) refl)
