use Rattle.std.proofs.Common.{◌≡◌, ◌-◌, ℕ, ◌<◌, length, get_or}
use Rattle.kd_tables.proofs.published_text.letters.Given as goal

abbrev pub invariant-loop-place : goal.invariant-loop-place
invariant-loop-place g l =
    (length l.letters ≡ g.row.N) × ((k : ℕ) → k < l.place → get_or l.letters k 0 ≡ get_or l.text k 0 - 65)
