use Rattle.kd_drum.proofs.{Ciphers.{cipher_in_turn}, WheelsAfterLetters.{key_in_turn}}
use Rattle.kd_tables.proofs.Ciphers.{cipher-set}
use Rattle.{kd_drum.specs.Converter.{PinKey, converter_cipher, pin_key_after}, std.proofs.Common.{ap, arith, ◌∙◌}}
use Rattle.kd_drum.proofs.converter.Converter.run.Goals as goal

pub loop-letter-preserved : goal.loop-letter-preserved
loop-letter-preserved c = record {
  key = c.press.ensures.after ∙ ap (λ (k : PinKey). pin_key_after k 1) c.loop-letter.invariant.key
      ∙ key_in_turn c.args.self.now c.loop-letter.letter-index 1;
  rest = rw c.press.ensures.after (c.loop-letter.invariant.rest
      ∙ cipher-set converter_cipher pin_key_after cipher_in_turn c.loop-letter.self c.loop-letter.text c.loop-letter.letter-index c.letter-item.result
      c.press.result
      (omega arith) c.press.ensures.cipher);
}
