use Rattle.{kd_form.proofs.Prelude.{◌≡◌, ◌+◌, ◌++◌, take, letters_text}, arrayvec.specs.ArrayString.array_string_len}
use Rattle.kd_form.proofs.sending.body_writer.push_letters.Given as goal

abbrev pub invariant-loop-letter : goal.invariant-loop-letter
invariant-loop-letter g l = record {
  bytes : l.text.bytes ≡ l.fn.text.bytes ++ letters_text (take l.letter-index l.letters);
  len : array_string_len l.text ≡ array_string_len l.fn.text + l.letter-index;
}
