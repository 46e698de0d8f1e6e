use Rattle.std.proofs.Common.{◌≡◌, ◌≤◌, ◌+◌, ◌∷◌, length}
use Rattle.kd_lost.specs.ShortLine.{later_lines, letters_on, short_line, short_line_from}
use Rattle.kd_lost.proofs.short_line.first_short_line.Given as goal

abbrev pub invariant-loop-first : goal.invariant-loop-first
invariant-loop-first l =
    (short_line l.body ≡ short_line_from (letters_on l.body) l.line (l.left ∷ later_lines l.left))
    × (l.line + length l.left ≤ length l.body + 2)

abbrev pub decreases-loop-first : goal.decreases-loop-first
decreases-loop-first l = length l.left
