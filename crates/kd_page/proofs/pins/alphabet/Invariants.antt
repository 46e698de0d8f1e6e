use Rattle.std.proofs.Common.{◌≡◌, ℕ, ◌<◌, length, get_or}
use Rattle.kd_page.proofs.pins.alphabet.Given as goal

abbrev pub invariant-loop-place : goal.invariant-loop-place
invariant-loop-place l = (length l.letters ≡ 26) × ((k : ℕ) → k < l.place → get_or l.letters k 0 ≡ k)
