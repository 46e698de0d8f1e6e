-- Patterns of lines: `_` stands for any capital letter, and each other byte stands for itself. No public contract cites
-- this file.
use Rattle.std.specs.Prelude.{◌≡◌, ℕ, ◌+◌, ◌-◌, ◌==◌, ◌++◌, ◌&&◌, nat_le, Bool, List, [], ◌∷◌, drop, slice_index}
use Rattle.std.specs.Prelude.{if◌then◌else◌}
use Rattle.kd_state.specs.Machine.{AreLetters}
use Rattle.kd_form.specs.Order.{IsLineWithEnd}

-- the pattern, with each `_` replaced by the next letter of `letters`
abbrev pub filled_pattern : List ℕ → List ℕ → List ℕ
filled_pattern [] letters = []
filled_pattern (mark ∷ pattern) letters =
    if mark == 95 then (slice_index letters 0 + 65) ∷ filled_pattern pattern (drop 1 letters)
    else mark ∷ filled_pattern pattern letters

-- how many `_` the pattern has
abbrev pub blank_count : List ℕ → ℕ
blank_count [] = 0
blank_count (mark ∷ pattern) = if mark == 95 then blank_count pattern + 1 else blank_count pattern

-- `bytes` are the pattern, with `letters` in place of the `_`, and then a line end.
pub record IsFilledLine (pattern letters bytes : List ℕ) : Type 0 where
  pub are_letters : AreLetters (blank_count pattern) letters
  pub ended : IsLineWithEnd (filled_pattern pattern letters) bytes

-- `bytes` are the pattern, with any letters in place of the `_`, and then a line end.
abbrev pub IsPatternLine : List ℕ → List ℕ → Type 0
IsPatternLine pattern bytes = (letters : List ℕ) × IsFilledLine pattern letters bytes

-- ---- Single bytes of a line and of its pattern.

-- whether `byte` fits `mark`, a byte of a pattern: `_` takes any capital letter, and each other mark takes only itself
abbrev pub fits_mark : ℕ → ℕ → Bool
fits_mark mark byte = if mark == 95 then nat_le 65 byte && nat_le byte 90 else byte == mark

-- the letter `byte` if `mark` is `_`; otherwise no letter
abbrev pub letters_for_mark : ℕ → ℕ → List ℕ
letters_for_mark mark byte = if mark == 95 then (byte - 65) ∷ [] else []

-- `bytes` are a line that fits the pattern. The list `new` is the list `old`, followed by the letters that the line has
-- at each `_`.
abbrev pub AreLettersAppended : List ℕ → List ℕ → List ℕ → List ℕ → Type 0
AreLettersAppended pattern bytes old new = (more : List ℕ) × IsFilledLine pattern more bytes × (new ≡ old ++ more)
