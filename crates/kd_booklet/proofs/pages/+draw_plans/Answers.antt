use Rattle.std.proofs.Common.{arith, ◌++◌}
use Rattle.kd_page.proofs.Drawings.{both}
use Rattle.kd_booklet.proofs.Drawn.{drawn_on, pages_next}
use Rattle.kd_booklet.proofs.pages.+draw_plans.Goals as goal

-- What is required has the days' number at `1.0`, and that the days can be drawn at `1.1.1`.
pub draw_plans-requires : goal.draw_plans-requires
draw_plans-requires g t c κs within = (
  omega (arith, c.requires.1.0, c.in-Some.ensures.cases.1),
  (
    within,
    drawn_on _ _ c.in-Some.plan.now c.in-Some.rest.now c.args.plans.now c.in-Some.ensures.cases.0 c.requires.1.1.1
        c.draw_plan-after.ensures.leads,
  ),
)

pub returns-in-Some : goal.returns-in-Some
returns-in-Some g t c =
    let rest = c.draw_plans.ensures in (
      _ ++ rest.0,
      pages_next _ _ _ _ c.in-Some.plan.now c.in-Some.rest.now c.args.plans.now _ c.in-Some.ensures.cases.0
          c.draw_plan-after.ensures.leads rest.1,
      both c.draw_plan-after.ensures.draws rest.2,
    )
