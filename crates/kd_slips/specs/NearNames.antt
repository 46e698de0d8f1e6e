-- Whether a name may be a mistyped form of another name.
use Rattle.std.specs.Prelude.{ℕ, ◌+◌, nat_le, Bool, List, ◌∷◌, length, reverse, if◌then◌else◌}
use Rattle.std.specs.Char.{eq_ignore_ascii_case}

-- how many letters two names have in common at their starts; capital and small letters count as equal
abbrev pub alike_at_start : List ℕ → List ℕ → ℕ
alike_at_start (letter ∷ name) (other ∷ known) =
    if eq_ignore_ascii_case letter other then alike_at_start name known + 1 else 0
alike_at_start _ _ = 0

-- how many letters two names have in common at their ends; capital and small letters count as equal
abbrev pub alike_at_end : List ℕ → List ℕ → ℕ
alike_at_end name known = alike_at_start (reverse name) (reverse known)

-- the smaller of two numbers
abbrev pub smaller : ℕ → ℕ → ℕ
smaller one other = if nat_le one other then one else other

-- the larger of two numbers
abbrev pub larger : ℕ → ℕ → ℕ
larger one other = if nat_le one other then other else one

-- how many letters two names share at their starts and at their ends, added up; at most the shorter name's length
abbrev pub in_common : List ℕ → List ℕ → ℕ
in_common name known =
    smaller (alike_at_start name known + alike_at_end name known) (smaller (length name) (length known))

-- whether two names differ only in one stretch of letters, which has at most `slips` letters in each name; for example,
-- `ringe` and `rings` differ in one letter
unfoldable pub is_near : ℕ → List ℕ → List ℕ → Bool
is_near slips name known = nat_le (larger (length name) (length known)) (in_common name known + slips)
