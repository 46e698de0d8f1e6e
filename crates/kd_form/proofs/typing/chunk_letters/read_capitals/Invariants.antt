use Rattle.kd_form.proofs.Prelude.{◌≡◌, ℕ, ◌+◌, ◌<◌, slice_index, IsTrue}
use Rattle.kd_form.proofs.typing.chunk_letters.read_capitals.Given as goal

-- if all bytes so far are capital letters, each is the byte of the letter read for it
abbrev pub invariant-loop-place : goal.invariant-loop-place
invariant-loop-place l = record {
  within : (k : ℕ) → k < l.place → slice_index l.letters k < 26;
  read : IsTrue l.all → (k : ℕ) → k < l.place → slice_index l.letters k + 65 ≡ slice_index l.bytes k;
}
