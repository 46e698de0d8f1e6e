-- Laws of permutations, published tables and pin wheels.
use Rattle.std.specs.Prelude.{◌≡◌, ◌↔◌, ℕ, ◌+◌, ◌-◌, ◌%◌, ◌<◌, ◌≤◌, List, length, slice_index, Some}
use Rattle.kd_tables.specs.declared.wheel.Wheel.{Wheel}
use Rattle.kd_tables.specs.declared.reflector.Reflector.{Reflector}
use Rattle.kd_tables.specs.Permutation.{alphabet, followed_by, inverse, shift, IsPermutation26, IsOwnInverse}
use Rattle.kd_tables.specs.Permutation.{MovesEachLetter}
use Rattle.kd_tables.specs.Rings.{IsRing, place_on}
use Rattle.kd_tables.specs.Tables.{wiring_of, reflector_of}

-- The published wiring of each wheel is a permutation.
abbrev pub WiringsArePermutations : Type 0
WiringsArePermutations = (wheel : Wheel) → IsPermutation26 (wiring_of wheel)

-- The published wiring of each reflector is a permutation.
abbrev pub ReflectorsArePermutations : Type 0
ReflectorsArePermutations = (reflector : Reflector) → IsPermutation26 (reflector_of reflector)

-- If a reflector turns a letter `x` into `y`, it turns `y` into `x`.
abbrev pub ReflectorsAreOwnInverses : Type 0
ReflectorsAreOwnInverses = (reflector : Reflector) → IsOwnInverse (reflector_of reflector)

-- A reflector turns no letter into itself.
abbrev pub ReflectorsMoveEachLetter : Type 0
ReflectorsMoveEachLetter = (reflector : Reflector) → MovesEachLetter (reflector_of reflector)

-- The product of `p` and `q` maps a letter by `p`, and then the result by `q`.
abbrev pub ProductsByLetter : Type 0
ProductsByLetter =
    (p q : List ℕ) (x : ℕ) → x < length p → slice_index (followed_by p q) x ≡ slice_index q (slice_index p x)

-- The inverse of a permutation maps `y` to `x` exactly if the permutation maps `x` to `y`.
abbrev pub InversesByLetter : Type 0
InversesByLetter =
    (p : List ℕ) (x y : ℕ) → IsPermutation26 p → x < 26 → y < 26
    → (slice_index p x ≡ y) ↔ (slice_index (inverse p) y ≡ x)

-- A shift by `k` moves each letter on by `k` places in the alphabet, with A after Z.
abbrev pub ShiftsByLetter : Type 0
ShiftsByLetter = (k x : ℕ) → x < 26 → slice_index (shift k) x ≡ (x + k) % 26

-- The product of two permutations is a permutation.
abbrev pub ProductsArePermutations : Type 0
ProductsArePermutations = (p q : List ℕ) → IsPermutation26 p → IsPermutation26 q → IsPermutation26 (followed_by p q)

-- The inverse of a permutation is a permutation.
abbrev pub InversesArePermutations : Type 0
InversesArePermutations = (p : List ℕ) → IsPermutation26 p → IsPermutation26 (inverse p)

-- A shift of the alphabet is a permutation.
abbrev pub ShiftsArePermutations : Type 0
ShiftsArePermutations = (k : ℕ) → IsPermutation26 (shift k)

-- A permutation, followed by its inverse, maps each letter to itself.
abbrev pub InverseUndoesAfter : Type 0
InverseUndoesAfter = (p : List ℕ) → IsPermutation26 p → followed_by p (inverse p) ≡ alphabet

-- The inverse of a permutation, followed by the permutation, maps each letter to itself.
abbrev pub InverseUndoesBefore : Type 0
InverseUndoesBefore = (p : List ℕ) → IsPermutation26 p → followed_by (inverse p) p ≡ alphabet

-- The inverse of a product is the product of the inverses in reverse order.
abbrev pub InversesOfProducts : Type 0
InversesOfProducts =
    (p q : List ℕ) → IsPermutation26 p → IsPermutation26 q
    → inverse (followed_by p q) ≡ followed_by (inverse q) (inverse p)

-- If `k` is at most 26, the inverse of the shift by `k` is the shift by `26 - k`.
abbrev pub InversesOfShifts : Type 0
InversesOfShifts = (k : ℕ) → k ≤ 26 → inverse (shift k) ≡ shift (26 - k)

-- If a pin wheel has a letter at a place, `place_on` gives this place for the letter.
abbrev pub LettersLeadToPlaces : Type 0
LettersLeadToPlaces =
    (size : ℕ) (ring : List ℕ) → IsRing size ring → (place : ℕ) → place < size
    → place_on ring (slice_index ring place) ≡ Some place

-- If `place_on` gives a place for a letter, the pin wheel has this letter at this place.
abbrev pub PlacesLeadToLetters : Type 0
PlacesLeadToLetters =
    (size : ℕ) (ring : List ℕ) → IsRing size ring → (place letter : ℕ) → place_on ring letter ≡ Some place
    → slice_index ring place ≡ letter
