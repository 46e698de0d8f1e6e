use Rattle.kd_form.proofs.Prelude.{◌≡◌, map, take, plaintext_byte}
use Rattle.kd_form.proofs.receiving.plaintext.plaintext_bytes.Given as goal

abbrev pub invariant-loop-letter : goal.invariant-loop-letter
invariant-loop-letter g l = l.given.items ≡ map (plaintext_byte l.for_space) (take l.letter-index l.letters)
