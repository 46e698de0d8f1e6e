use Rattle.kd_enigma.{proofs.Ciphers.{cipher_in_turn, key_in_turn}, specs.Cipher.{enigma_cipher, key_after}}
use Rattle.kd_tables.proofs.Ciphers.{cipher-set}
use Rattle.std.proofs.Common.{ap, arith, ◌∙◌}
use Rattle.kd_enigma.proofs.enigma.Enigma.run.Goals as goal

pub loop-letter-preserved : goal.loop-letter-preserved
loop-letter-preserved g c = record {
  key = c.press.ensures.after ∙ ap (λ k. key_after k 1) c.loop-letter.invariant.key
      ∙ key_in_turn c.args.self.now c.loop-letter.letter-index 1;
  rest = grind (arith, cipher-set enigma_cipher key_after cipher_in_turn);
}
