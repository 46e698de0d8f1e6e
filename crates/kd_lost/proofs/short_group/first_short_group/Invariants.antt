use Rattle.std.proofs.Common.{◌≡◌, ◌<◌, ◌≤◌, take, ℕ}
use Rattle.kd_lost.specs.ShortGroup.{EndsShortGroup}
use Rattle.kd_lost.specs.ShortLine.{letters_on}
use Rattle.kd_lost.proofs.short_group.first_short_group.Given as goal

abbrev pub invariant-loop-byte : goal.invariant-loop-byte
invariant-loop-byte l = (l.letters ≡ letters_on (take l.byte-index l.body)) × (l.letters ≤ l.byte-index)
    × ((earlier : ℕ) → earlier < l.byte-index → ¬ (EndsShortGroup l.body earlier))
