use Rattle.std.proofs.Common.{◌∙◌, sym, refl, subst, IsFalse}
use Rattle.std.proofs.lemmas.Bool.{false≢true}
use Rattle.kd_state.specs.AnswerRules.{GoesOn, HasFault}
use Rattle.kd_lost.specs.Lost.{is_lost}
use Rattle.kd_lost.proofs.part.read_body_after.Goals as goal

pub returns-then-has_lost_byte : goal.returns-then-has_lost_byte
returns-then-has_lost_byte c =
    let (k, byte, inside, is, lost) = c.if-has_lost_byte.ensures.lost in
    HasFault _ ((λ _ all. false≢true (sym (subst (λ b. IsFalse (is_lost b)) is (all k byte inside)) ∙ lost)), refl) refl

pub returns : goal.returns
returns c = GoesOn tt c.if-has_lost_byte.ensures.none c.read_damaged_body.ensures
