-- Letters that must all differ, such as all letters in a plugboard's pairs.
-- Test: no_letter_is_plugged_twice
use Rattle.std.specs.Prelude.{ℕ, nat_eq, Bool, true, not, ◌&&◌, List, [], ◌∷◌, ◌++◌}
use Rattle.std.specs.List.{flat_map, list_any, IsDistinct}

-- whether `letter` is in the list
abbrev pub has_letter : List ℕ → ℕ → Bool
has_letter letters letter = list_any (λ other. nat_eq other letter) letters

-- whether the letters of the first list differ from each other and from all letters of `others`
abbrev pub are_new_and_distinct : List ℕ → List ℕ → Bool
are_new_and_distinct [] others = true
are_new_and_distinct (first ∷ rest) others = not (has_letter (rest ++ others) first) && are_new_and_distinct rest others

-- the letters of all pairs
abbrev pub letters_in_pairs : List (ℕ × ℕ) → List ℕ
letters_in_pairs pairs = flat_map (λ pair. pair.0 ∷ pair.1 ∷ []) pairs

-- No letter is in two pairs, or twice in one pair.
abbrev pub NoLetterTwice : List (ℕ × ℕ) → Type 0
NoLetterTwice pairs = IsDistinct nat_eq (letters_in_pairs pairs)
