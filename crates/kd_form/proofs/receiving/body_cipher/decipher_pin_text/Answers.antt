use Rattle.kd_form.proofs.Prelude.{Ok, ap, refl, GoesOn, HasFault}
use Rattle.kd_form.proofs.receiving.body_cipher.decipher_pin_text.Goals as goal

pub returns-in-Some : goal.returns-in-Some
returns-in-Some c =
    let is = rw (c.internal_key_of.ensures.day, c.as_slice.ensures.value) at c.encipher_text.ensures.text in
    GoesOn c.in-Some.internal.items c.in-Some.ensures.key (ap Ok is)

pub returns-in-None : goal.returns-in-None
returns-in-None c = HasFault _ ((λ key is. c.in-None.ensures.key is.places key is.picked), refl) refl
