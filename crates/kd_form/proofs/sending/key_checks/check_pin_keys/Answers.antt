use Rattle.kd_form.proofs.Prelude.{GoesOn, HasFault, refl, arith}
use Rattle.kd_form.proofs.sending.key_checks.check_pin_keys.Goals as goal

pub returns-then-not-can_show : goal.returns-then-not-can_show
returns-then-not-can_show c = HasFault _ ((λ _ shown. grind (arith, c.can_show.ensures.window.1 shown)), refl) refl

pub returns-in-Some : goal.returns-in-Some
returns-in-Some c =
    let key = rw c.can_show.ensures.day at c.in-Some.ensures.key in
    GoesOn tt (c.can_show.ensures.window.0 c.if-not-can_show.false) (GoesOn _ key refl)

pub returns-in-None : goal.returns-in-None
returns-in-None c =
    let spent = rw c.can_show.ensures.day at c.in-None.ensures.key in
    GoesOn tt (c.can_show.ensures.window.0 c.if-not-can_show.false)
    (HasFault _ ((λ key is. spent is.places key is.picked), refl) refl)
