use Rattle.std.proofs.Common.{refl, subst, sym, ◌∙◌}
use Rattle.kd_host.proofs.Failing.{err_is, in_part, in_whole}
use Rattle.kd_booklet.proofs.Drawn.{planned_drawable, planned_none}
use Rattle.kd_booklet.specs.Booklet.{AreDrawable}
use Rattle.kd_booklet.specs.Chain.{ArePlanned}
use Rattle.kd_curator.proofs.DayRefusals.{refusal_no_device, refused_well}
use Rattle.kd_curator.specs.RunPage.{NoDays, NoPage, Pages}
use Rattle.kd_curator.proofs.run_page.write_days.Goals as goal

pub returns-in_err-plans-clause-pages : goal.returns-in_err-plans-clause-pages
returns-in_err-plans-clause-pages g c =
    NoPage _ c.in_err-plans.ensures.refused (err_is _ _ c.from_residual.ensures.1)

pub returns-in_err-plans-clause-failed : goal.returns-in_err-plans-clause-failed
returns-in_err-plans-clause-failed g c = refused_well _ _ _ (err_is _ _ c.from_residual.ensures.1)
    (refusal_no_device _ _ _ _ c.in_err-plans.ensures.refused)

pub returns-in_default-clause-pages : goal.returns-in_default-clause-pages
returns-in_default-clause-pages g c =
    rw c.from.ensures (NoDays (planned_none _ _ _ _ (rw c.as_slice.ensures.value at c.in_default.ensures.cases)
    c.in_ok-plans.ensures.planned) refl)

pub write_pages-requires-clause-days : goal.write_pages-requires-clause-days
write_pages-requires-clause-days g c =
    subst (AreDrawable c.args.machine.now) (sym c.as_slice.ensures.value ∙ c.in-Some.ensures.cases.0)
    (planned_drawable _ _ _ _ c.in_ok-plans.ensures.planned)

pub returns-in_err-write_pages-clause-pages : goal.returns-in_err-write_pages-clause-pages
returns-in_err-write_pages-clause-pages g c =
    let text = c.in_err-write_pages.ensures.pages in
    Pages c.in-Some.first.now c.in-Some.others.now
    (subst (ArePlanned c.args.sheet.now c.args.machine.now c.args.days.now)
    (sym c.as_slice.ensures.value ∙ c.in-Some.ensures.cases.0)
    c.in_ok-plans.ensures.planned) text.0 text.1
    (in_part _ _ _ _ text.2.front c.from_residual-in_err-write_pages.ensures.1)

pub returns-clause-pages : goal.returns-clause-pages
returns-clause-pages g c =
    let text = c.in_ok-write_pages.ensures.pages in
    Pages c.in-Some.first.now c.in-Some.others.now
    (subst (ArePlanned c.args.sheet.now c.args.machine.now c.args.days.now)
    (sym c.as_slice.ensures.value ∙ c.in-Some.ensures.cases.0)
    c.in_ok-plans.ensures.planned) text.0 text.1
    (in_whole _ _ _ text.2.whole)
