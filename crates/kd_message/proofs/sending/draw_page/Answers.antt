use Rattle.std.proofs.Common.{arith, refl}
use Rattle.std.proofs.lemmas.Grind.{common_steps}
use Rattle.kd_pictures.proofs.Drawings.{both, joined}
unfoldable use Rattle.kd_message.specs.SendPage.{send_text}
use Rattle.kd_message.proofs.sending.draw_page.Goals as goal

pub returns : goal.returns
unfolding send_text
returns g c = λ form is.
    let (sheets, are, draws) = c.draw_sheets_of.ensures form is in (
      _,
      record { sheets = sheets; are_sheets = are; is_page = refl },
      both (both c.draw_title.ensures draws) c.draw.ensures,
    )
