use Rattle.std.proofs.Common.{arith}
use Rattle.std.proofs.lemmas.Grind.{common_steps}
use Rattle.kd_pictures.proofs.Drawings.{both, joined}
unfoldable use Rattle.kd_message.specs.SendPage.{sheets_text}
use Rattle.kd_message.proofs.sending.draw_sheets.Goals as goal

pub returns : goal.returns
unfolding sheets_text
returns g c =
    let (works, worked, sheets) = c.draw_part_sheets.ensures in
    let (made, are, forms) = c.draw_form_parts.ensures in (
      works,
      made,
      worked,
      are,
      joined (both (both (both c.draw_list.ensures sheets) c.draw_form_head.ensures) forms) c.draw.ensures
          (grind (arith, common_steps)),
    )
