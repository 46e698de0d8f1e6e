-- Permutations of the alphabet, as lists of numbers: A is 0, and Z is 25. A permutation maps letter `x` to item `x` of
-- its list.
-- Code: a permutation is a table of 32 bytes. A product is one shuffle of bytes. An inverse is one loop over letters.
-- Test: tests/refusals
use Rattle.std.specs.Prelude.{◌≡◌, ◌≢◌, ℕ, ◌+◌, ◌%◌, ◌==◌, List, [], ◌∷◌, length, map, slice_index, All, if◌then◌else◌}
use Rattle.std.specs.List.{range_with_len, position_or_len}
use Rattle.std.specs.Slice.Sort.{NamesEachOnce}

-- The letters from A to Z: the permutation that changes nothing.
abbrev pub alphabet : List ℕ
alphabet = range_with_len 0 26

-- `p` is a permutation of the alphabet: a list of 26 different numbers below 26.
pub record IsPermutation26 (p : List ℕ) : Type 0 where
  pub size : length p ≡ 26
  pub each_once : NamesEachOnce 26 p

-- the product of two permutations: first `p`, then `q`
unfoldable pub followed_by : List ℕ → List ℕ → List ℕ
followed_by p q = map (λ y. slice_index q y) p

-- the inverse of `p`: for each letter, its place in `p`
unfoldable pub inverse : List ℕ → List ℕ
inverse p = map (λ y. position_or_len (λ x. x == y) p) alphabet

-- the permutation that moves each letter on by `k` places, with A after Z
unfoldable pub shift : ℕ → List ℕ
shift k = map (λ x. (x + k) % 26) alphabet

-- the letter that `x` becomes if the two letters of each pair are exchanged
abbrev pub exchanged : List (ℕ × ℕ) → ℕ → ℕ
exchanged [] x = x
exchanged (pair ∷ pairs) x = if x == pair.0 then pair.1 else (if x == pair.1 then pair.0 else exchanged pairs x)

-- the permutation that exchanges the two letters of each pair, and maps each other letter to itself
unfoldable pub exchange : List (ℕ × ℕ) → List ℕ
exchange pairs = map (exchanged pairs) alphabet

-- The permutation, applied twice, maps each letter to itself.
abbrev pub IsOwnInverse : List ℕ → Type 0
IsOwnInverse p = All (λ x. slice_index p (slice_index p x) ≡ x) alphabet

-- The permutation maps no letter to itself.
abbrev pub MovesEachLetter : List ℕ → Type 0
MovesEachLetter p = All (λ x. slice_index p x ≢ x) alphabet
