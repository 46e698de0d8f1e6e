use Rattle.std.proofs.Common.{arith}
use Rattle.std.proofs.lemmas.Grind.{common_steps}
use Rattle.kd_pictures.proofs.Drawings.{both, joined}
unfoldable use Rattle.kd_part_sheet.specs.PartSheet.{rotor_key_text}
use Rattle.kd_part_sheet.proofs.part_sheet.draw_rotor_key.Goals as goal

pub returns : goal.returns
unfolding rotor_key_text
returns g c =
    joined (both (both (both (both (both c.fill_in.ensures c.draw_wheels.ensures) c.draw_in.ensures)
    c.draw_rings.ensures) c.draw_in-2.ensures) c.draw_cables.ensures) c.draw.ensures
    (grind (arith, common_steps))
