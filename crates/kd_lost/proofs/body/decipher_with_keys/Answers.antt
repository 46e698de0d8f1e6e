use Rattle.std.proofs.Common.{◌∙◌, refl, arith}
use Rattle.kd_state.specs.AnswerRules.{GoesOn, HasFault}
use Rattle.kd_lost.proofs.body.decipher_with_keys.Goals as goal

pub returns-then-not-can_show : goal.returns-then-not-can_show
returns-then-not-can_show c =
    let shows = rw c.new-machine.ensures at c.can_show.ensures.window in
    HasFault _ ((λ _ on_wheels. grind (arith, shows.1 on_wheels)), refl) refl

pub returns-in-Some : goal.returns-in-Some
returns-in-Some c =
    let own = c.can_show.ensures.day ∙ c.new-machine.ensures in
    let on_wheels = rw c.new-machine.ensures at (c.can_show.ensures.window.0 c.if-not-can_show.false) in
    let first = rw own at c.in-Some.ensures.key in
    GoesOn tt on_wheels (GoesOn c.in-Some.internal.items first (
      refl,
      λ whole completes.
          rw (c.internal_key_of.ensures.day ∙ own, c.as_slice.ensures.value)
          at (c.decipher_covered-shown.ensures whole completes),
    ))

pub returns-in-None : goal.returns-in-None
returns-in-None c =
    let own = c.can_show.ensures.day ∙ c.new-machine.ensures in
    let on_wheels = rw c.new-machine.ensures at (c.can_show.ensures.window.0 c.if-not-can_show.false) in
    let spent = rw own at c.in-None.ensures.key in
    GoesOn tt on_wheels (HasFault _ ((λ key is. spent is.places key is.picked), refl) refl)

pub decipher_covered-shown-requires-clause-few : goal.decipher_covered-shown-requires-clause-few
decipher_covered-shown-requires-clause-few c = omega arith
