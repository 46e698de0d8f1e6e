use Rattle.std.proofs.Common.{arith}
use Rattle.std.proofs.lemmas.Grind.{common_steps}
use Rattle.kd_pictures.proofs.Templates.{fills_next, fills_none}
use Rattle.kd_pictures.proofs.template.+fill.Goals as goal

pub returns-in-len1-up : goal.returns-in-len1-up
returns-in-len1-up g t c =
    let next = c.draw_value.ensures in
    fills_next _ _ _ _ _ _ _ _ _ _ c.args.values.now _ c.value-item.result c.cut.ensures.before c.cut.ensures.after
    c.draw-in-len1-up.ensures next c.fill.ensures (grind (arith, common_steps))

pub returns-in_default : goal.returns-in_default
returns-in_default g t c = fills_none _ _ _ _ _ _ _ c.in_default.len_below c.draw.ensures
