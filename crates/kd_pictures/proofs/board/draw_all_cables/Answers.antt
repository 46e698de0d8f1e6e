use Rattle.std.proofs.Common.{sym, ◌∙◌}
use Rattle.kd_pictures.proofs.Choices.{if_false, if_true}
unfoldable use Rattle.kd_pictures.specs.Board.{all_cables}
use Rattle.kd_pictures.proofs.board.draw_all_cables.Goals as goal

pub returns-then-has_cables : goal.returns-then-has_cables
unfolding all_cables
returns-then-has_cables g c =
    if_true _ _ (sym c.has_cables.ensures ∙ c.if-has_cables.true) c.draw_cables_after.ensures

pub returns-else-has_cables : goal.returns-else-has_cables
unfolding all_cables
returns-else-has_cables g c = if_false _ _ (sym c.has_cables.ensures ∙ c.if-has_cables.false) c.draw_in.ensures
