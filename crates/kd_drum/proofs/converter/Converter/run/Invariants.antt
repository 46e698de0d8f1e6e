use Rattle.{std.proofs.Common.{◌≡◌, ◌++◌, drop, take}, kd_drum.specs.Converter.{converter_cipher, pin_key_after}}
use Rattle.kd_drum.proofs.converter.Converter.run.Given as goal

abbrev pub invariant-loop-letter : goal.invariant-loop-letter
invariant-loop-letter l = record {
  key : l.self ≡ pin_key_after l.fn.self l.letter-index;
  rest : converter_cipher l.fn.self l.fn.text
      ≡ take l.letter-index l.text ++ converter_cipher l.self (drop l.letter-index l.text);
}
