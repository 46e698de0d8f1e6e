use Rattle.std.proofs.Common.{arith, refl}
use Rattle.std.proofs.lemmas.Grind.{common_steps}
use Rattle.kd_pictures.proofs.Drawings.{both, joined}
unfoldable use Rattle.kd_message.specs.SendBooklet.{order_page}
use Rattle.kd_message.proofs.booklet.draw_order_page.Goals as goal

pub returns : goal.returns
unfolding order_page
returns g c =
    let (form, is) = c.requires in
    let (sheets, are, draws) = c.draw_sheets_of.ensures form is in (
      _,
      record { form = form; is_form = is; sheets = sheets; are_sheets = are; is_page = refl },
      joined (both (both (both c.fill.ensures c.draw_sheet_name.ensures) c.draw.ensures) draws) c.draw-2.ensures
          (grind (arith, common_steps)),
    )
