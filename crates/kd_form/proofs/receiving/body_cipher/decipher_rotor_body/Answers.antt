use Rattle.kd_form.proofs.MadeParts.{Ok, ap, refl, arith, ◌∙◌, key_is_window}
use Rattle.kd_form.proofs.Prelude.{GoesOn, HasFault, ℕ, ◌-◌, length, drop, length-drop, take_all}
use Rattle.kd_form.proofs.receiving.body_cipher.decipher_rotor_body.Goals as goal

pub returns-then-not-has_group : goal.returns-then-not-has_group
returns-then-not-has_group c = HasFault _ ((λ _. grind arith), refl) refl

pub encipher_text-requires : goal.encipher_text-requires
encipher_text-requires c = grind (arith, key_is_window)

pub returns : goal.returns
returns c =
    let own = c.encipher_text-message_key.ensures.day ∙ c.new-machine.ensures in
    let key =
    rw (c.new-machine.ensures, c.as_slice-2.ensures.value, c.as_slice-3.ensures.value)
    at c.encipher_text-message_key.ensures.text in
    let rest =
    take_all (length c.args.letters.now - 5) (drop 5 c.args.letters.now) (omega (arith, length-drop {A = ℕ})) in
    let text = rw (own, c.as_slice-4.ensures.value, key, rest) at c.encipher_text.ensures.text in
    GoesOn tt (grind arith) (ap Ok text)
