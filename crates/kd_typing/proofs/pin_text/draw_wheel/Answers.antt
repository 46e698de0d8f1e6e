use Rattle.std.proofs.Common.{◌≡◌, ◌∙◌}
use Rattle.kd_pictures.proofs.Drawings.{both}
use Rattle.kd_typing.specs.TableText.{acting_text}
use Rattle.kd_typing.proofs.pin_text.draw_wheel.Goals as goal

pub returns : goal.returns
returns g c =
    let text : c.as_str.result.now ≡ acting_text c.args.pins.now c.args.offset =
    c.as_str.ensures.value ∙ c.acting_text.ensures in
    both c.draw.ensures (rw text at c.draw-2.ensures)
