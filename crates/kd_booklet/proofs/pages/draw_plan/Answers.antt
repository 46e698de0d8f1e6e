use Rattle.std.proofs.Common.{rules}
use Rattle.kd_state.specs.Setting.{Leads}
use Rattle.kd_booklet.proofs.Drawn.{carries_all, drawn_ready}
use Rattle.kd_booklet.proofs.pages.draw_plan.Goals as goal

pub unwrap-after-requires : goal.unwrap-after-requires
unwrap-after-requires g c = carries_all _ c.requires.0 _ c.carry_all.result c.requires.1.leads
    (rw c.as_slice-settings.ensures.value at c.carry_all.ensures.refused)

pub draw_day-requires : goal.draw_day-requires
draw_day-requires g c =
    let carried : Leads c.args.machine.now c.as_slice-settings.result.now c.unwrap-after.result = search rules in
    rw c.new-page.ensures (drawn_ready _ _ _ _ c.requires.1 (rw c.as_slice-settings.ensures.value at carried))
