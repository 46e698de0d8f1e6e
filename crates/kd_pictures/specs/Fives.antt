-- Letters in groups of five.
use Rattle.std.specs.Prelude.{codes, ℕ, ◌+◌, ◌%◌, ◌==◌, Bool, if◌then◌else◌, List, [], ◌∷◌, ◌++◌}
use Rattle.kd_pictures.specs.Template.{letter_text}

abbrev pub gap_text : Bool → List ℕ
gap_text ends_group = if ends_group then codes " " else []

-- the letters, with a space after every fifth letter of their row; `place` letters stand before these letters in the
-- row
abbrev pub fives_from : ℕ → List ℕ → List ℕ
fives_from place [] = []
fives_from place (letter ∷ letters) =
    letter_text letter ++ gap_text (place % 5 == 4) ++ fives_from (place + 1) letters
