use Rattle.std.proofs.Common.{arith}
use Rattle.std.proofs.lemmas.Grind.{common_steps}
use Rattle.kd_pictures.proofs.Drawings.{both, joined}
unfoldable use Rattle.kd_message.specs.LoneParts.{damaged_heading}
use Rattle.kd_message.proofs.lone_parts.draw_damaged_heading.Goals as goal

pub returns : goal.returns
unfolding damaged_heading
returns g c =
    let example = rw c.heading_example.ensures at c.draw-2.ensures in
    joined (both (both (both (both c.draw_heading_fault.ensures c.draw_in.ensures) c.draw.ensures) c.draw_in-2.ensures)
    example) c.draw_in-3.ensures
    (grind (arith, common_steps))
