use Rattle.kd_form.proofs.Prelude.{◌≡◌, ℕ, ◌+◌, ◌<◌, slice_index}
use Rattle.kd_form.proofs.typing.chunk_letters.write_letters.Given as goal

-- each letter so far is written
abbrev pub invariant-loop-place : goal.invariant-loop-place
invariant-loop-place l = (k : ℕ) → k < l.place → slice_index l.letters k + 65 ≡ slice_index l.bytes k
