-- The cables of a plugboard: each cable exchanges the two letters of a pair.
-- Source: the published accounts of the plugboard.
-- Code: `Plugs` has a table of the 26 letters, so that a key press needn't search the pairs.
-- Test: no_letter_is_plugged_twice
use Rattle.std.specs.Prelude.{◌⊎◌, ℕ, List, Contains}
pub use Rattle.kd_tables.specs.Pairs.{letters_in_pairs, NoLetterTwice}

-- One of the pairs has the letters `x` and `y`, in either order.
abbrev pub HavePairOf : List (ℕ × ℕ) → ℕ → ℕ → Type 0
HavePairOf pairs x y = Contains pairs (x, y) ⊎ Contains pairs (y, x)
