use Rattle.std.proofs.Common.{arith, sym, ◌∙◌}
use Rattle.std.proofs.lemmas.Grind.{common_steps}
use Rattle.kd_pictures.proofs.Choices.{if_false, is_empty, split_first}
use Rattle.kd_pictures.proofs.Drawings.{joined}
use Rattle.kd_pictures.proofs.board.+draw_cables_after.Goals as goal

pub returns-in-len1-up : goal.returns-in-len1-up
returns-in-len1-up g t c =
    joined c.draw_cable_after.ensures c.draw_cables_after.ensures (grind (arith, common_steps))

pub returns-in-empty : goal.returns-in-empty
returns-in-empty g t c = rw (is_empty _ c.in-empty.len_below) c.draw.ensures

pub returns-in-len1-up-2 : goal.returns-in-len1-up-2
returns-in-len1-up-2 g t c =
    rw (split_first _ c.in-len1-up.len_at_least)
    (if_false _ _ (sym c.is_plugged.ensures ∙ c.if-is_plugged.false) c.draw_cables_after-in-len1-up-2.ensures)
