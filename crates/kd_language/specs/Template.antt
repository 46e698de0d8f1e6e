-- Templates: texts with signs `~`, each of which stands for a value.
use Rattle.std.specs.Prelude.{ℕ, ◌==◌, Bool, List, [], ◌∷◌, ◌++◌}
use Rattle.std.specs.List.{before_first, after_first}

-- whether the byte is the sign `~`
abbrev pub is_gap : ℕ → Bool
is_gap byte = byte == 126

-- the template with values in place of its signs `~`: the first value in place of the first sign, and so on
unfoldable pub filled : List ℕ → List (List ℕ) → List ℕ
filled template [] = template
filled template (value ∷ values) =
    before_first is_gap template ++ value ++ filled (after_first is_gap template) values
