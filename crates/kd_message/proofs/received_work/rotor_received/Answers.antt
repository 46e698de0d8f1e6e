use Rattle.std.proofs.Common.{◌∙◌, sym, subst}
use Rattle.kd_state.specs.EngineKey.{IsWindow}
use Rattle.kd_state.specs.OwnKeys.{sheet_key}
use Rattle.kd_form.proofs.MadeParts.{key_is_window}
use Rattle.kd_message.proofs.Works.{ground_is_window}
use Rattle.kd_message.proofs.received_work.rotor_received.Goals as goal

pub returns-clause-workable : goal.returns-clause-workable
returns-clause-workable c =
    let day = c.args.day.now in
    let indicator = c.args.indicator.now in
    let key = rw (c.new-machine.ensures, c.as_slice-ground.ensures.value, c.as_slice-enciphered_key.ensures.value)
    at c.encipher_text-message_key.ensures.text in
    record {
      ground = subst (IsWindow (sheet_key day)) (sym (c.letters_of.ensures ∙ c.as_slice-ground.ensures.value))
          (ground_is_window day indicator c.requires);
      start = subst (IsWindow (sheet_key day)) (sym (c.letters_of-2.ensures ∙ c.as_slice-4.ensures.value))
          (key_is_window day indicator _ c.requires key c.encipher_text-message_key.ensures.letters);
    }
