use Rattle.kd_state.proofs.{Prelude.{IsEachOnItsWheel, subst, sym, ◌∙◌}, Slots.{are_on_wheels, stand_on_wheels}}
use Rattle.kd_state.proofs.engine.turn_drum.Goals as goal

pub returns-in-Ok-clause-window : goal.returns-in-Ok-clause-window
returns-in-Ok-clause-window c =
    let whole = c.in-Ok.ensures.1 in
    let tells = c.is_ok.ensures.value in (
      λ yes. are_on_wheels _ whole.long (subst IsEachOnItsWheel whole.same (c.turn_to.ensures.ok.0 (sym tells ∙ yes))),
      λ on. tells ∙ c.turn_to.ensures.ok.1 (subst IsEachOnItsWheel (sym whole.same) (stand_on_wheels _ on)),
    )
