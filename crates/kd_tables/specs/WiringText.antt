-- Tests of the published text of a wiring or a pin wheel. The prover, not the program, runs these tests. No public
-- contract cites this file.
use Rattle.std.specs.Prelude.{ℕ, ◌==◌, nat_eq, nat_le, nat_lt, Bool, not, ◌&&◌, List, length, slice_index}
use Rattle.std.specs.List.{list_all}
use Rattle.std.specs.Set.{distinct_count}
use Rattle.kd_tables.specs.Permutation.{alphabet}
use Rattle.kd_tables.specs.Tables.{letters_of}

-- whether each byte is a capital letter
abbrev pub are_capitals : List ℕ → Bool
are_capitals text = list_all (λ byte. nat_le 65 byte && nat_le byte 90) text

-- whether all numbers are below 26, and all are different
abbrev pub are_distinct_letters : List ℕ → Bool
are_distinct_letters p = list_all (λ x. nat_lt x 26) p && (distinct_count nat_eq p == length p)

-- whether the text can be the letters of a pin wheel: only capital letters, and none of them twice
abbrev pub is_ring_text : List ℕ → Bool
is_ring_text text = are_capitals text && are_distinct_letters (letters_of text)

-- whether the list has 26 different numbers below 26
abbrev pub is_permutation : List ℕ → Bool
is_permutation p = (length p == 26) && are_distinct_letters p

-- whether the list maps each letter `x` to another letter, and that letter back to `x`
abbrev pub is_reflection : List ℕ → Bool
is_reflection p = list_all (λ x. not (slice_index p x == x) && (slice_index p (slice_index p x) == x)) alphabet
