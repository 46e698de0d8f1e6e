use Rattle.{std.proofs.Common.{◌≡◌, ◌++◌, drop, take}, kd_enigma.specs.Cipher.{enigma_cipher, key_after}}
use Rattle.kd_enigma.proofs.enigma.Enigma.run.Given as goal

abbrev pub invariant-loop-letter : goal.invariant-loop-letter
invariant-loop-letter g l = record {
  key : l.self ≡ key_after l.fn.self l.letter-index;
  rest : enigma_cipher l.fn.self l.fn.text
      ≡ take l.letter-index l.text ++ enigma_cipher l.self (drop l.letter-index l.text);
}
