use Rattle.std.proofs.Common.{◌++◌, append_assoc, refl}
unfoldable use Rattle.kd_page.specs.Head.{file_text}
use Rattle.kd_page.proofs.Drawings.{both, joined}
use Rattle.kd_booklet.proofs.Drawn.{drawn_on, pages_next}
use Rattle.kd_booklet.proofs.pages.draw_pages.Goals as goal

pub draw_plans-requires : goal.draw_plans-requires
draw_plans-requires g c = drawn_on _ _ c.args.first.now c.args.others.now _ refl c.requires.days
    c.draw_plan-after.ensures.leads

pub returns : goal.returns
unfolding file_text
returns g c =
    let rest = c.draw_plans.ensures in (
      _,
      record {
        pages = _ ++ rest.0;
        are_pages = pages_next _ _ _ _ c.args.first.now c.args.others.now _ _ refl c.draw_plan-after.ensures.leads rest.1;
        whole = refl;
      },
      joined (both (both c.draw_listed.ensures c.draw_plan-after.ensures.draws) rest.2) c.draw_foot.ensures
          (simp append_assoc),
    )
