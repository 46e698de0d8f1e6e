use Rattle.std.proofs.Common.{sym, ◌∙◌}
use Rattle.kd_pictures.proofs.Choices.{if_false, if_true, same_letter}
use Rattle.kd_pictures.proofs.wheels.draw_ring.Goals as goal

pub returns-then-eq : goal.returns-then-eq
returns-then-eq g c =
    rw c.in-Some.is
    (if_true _ _ (same_letter c.args.other c.in-Some.letter ∙ sym c.eq.ensures ∙ c.if-eq.true) c.fill.ensures)

pub returns-else-eq : goal.returns-else-eq
returns-else-eq g c =
    rw c.in-Some.is
    (if_false _ _ (same_letter c.args.other c.in-Some.letter ∙ sym c.eq.ensures ∙ c.if-eq.false) c.fill-else-eq.ensures)
