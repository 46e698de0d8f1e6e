use Rattle.std.proofs.Common.{◌∙◌, arith, drop, refl, ap, sym}
use Rattle.std.proofs.lemmas.Grind.{common_steps}
use Rattle.kd_form.proofs.MadeParts.{key_is_window}
use Rattle.kd_lost.specs.Lost.{covered}
use Rattle.kd_lost.proofs.Completions.{rest_completes}
use Rattle.kd_lost.proofs.KeyLetters.{all_but}
use Rattle.kd_lost.proofs.body.decipher_rotor.Goals as goal

pub returns : goal.returns
returns c =
    let received = c.args.received.now in
    let own = c.encipher_text-message_key.ensures.day ∙ c.new-machine.ensures in
    let key =
    rw (c.new-machine.ensures, c.as_slice-2.ensures.value, c.as_slice-3.ensures.value)
    at c.encipher_text-message_key.ensures.text in
    let shown = rw (own, c.as_slice-4.ensures.value, key, all_but received 5) at c.decipher_covered.ensures in
    record {
      each = λ whole text completes is. shown (drop 5 whole) (rest_completes 5 received whole completes)
          ∙ ap (covered (drop 5 received)) (sym is);
      as_received = c.list_of.ensures;
      keys = (c.requires.indicator, refl);
      from_keys = shown;
      warnings = (c.test_group.ensures, refl);
    }

pub encipher_text-message_key-requires : goal.encipher_text-message_key-requires
encipher_text-message_key-requires c = grind (arith, common_steps)

pub decipher_covered-requires-clause-window : goal.decipher_covered-requires-clause-window
decipher_covered-requires-clause-window c = grind (arith, key_is_window)

pub slice_bounds-decipher_covered-count : goal.slice_bounds-decipher_covered-count
slice_bounds-decipher_covered-count c = omega arith

pub slice_bounds-decipher_covered-start : goal.slice_bounds-decipher_covered-start
slice_bounds-decipher_covered-start c = omega arith

pub slice_bounds-decipher_covered-end : goal.slice_bounds-decipher_covered-end
slice_bounds-decipher_covered-end c = omega arith

pub list_of-requires : goal.list_of-requires
list_of-requires c = omega arith

pub slice_bounds-test_group-count : goal.slice_bounds-test_group-count
slice_bounds-test_group-count c = omega arith

pub slice_bounds-test_group-start : goal.slice_bounds-test_group-start
slice_bounds-test_group-start c = omega arith

pub slice_bounds-test_group-end : goal.slice_bounds-test_group-end
slice_bounds-test_group-end c = omega arith

pub decipher_covered-requires-clause-few : goal.decipher_covered-requires-clause-few
decipher_covered-requires-clause-few c = grind (arith, common_steps)

pub test_group-requires : goal.test_group-requires
test_group-requires c = grind (arith, common_steps)
