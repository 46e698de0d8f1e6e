use Rattle.std.proofs.Common.{refl}
use Rattle.kd_pictures.proofs.Drawings.{both}
use Rattle.kd_message.proofs.booklet.draw_booklet.Goals as goal

pub returns : goal.returns
returns g c =
    let (pages, are, draws) = c.draw_order_pages.ensures in (
      _,
      record { pages = pages; are_pages = are; whole = refl },
      both (both c.draw_booklet_head.ensures draws) c.draw.ensures,
    )
