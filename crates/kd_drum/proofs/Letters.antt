-- Six letters, each tested on its wheel.
use Rattle.std.proofs.Common.{◌≡◌, ◌↔◌, ◌-◌, ◌||◌, ◌∷◌, [], ℕ, ◌<◌, Bool, false, not, IsTrue, List, Contains, length}
use Rattle.std.proofs.Common.{ap, get_or, slice_index, refl, arith, ◌∙◌}
use Rattle.{kd_drum.{proofs.WheelsAfterLetters.each_wheel, specs.Converter.IsEachOnItsWheel}}
use Rattle.{kd_tables.specs.Rings.ring_of}
use Rattle.kd_drum.specs.SixWheels.{IsPinWheel}
use Rattle.kd_pins.specs.PinWheel.{TurnedWheel, IsWheel, wheel_at_place}
use Rattle.std.proofs.{Math.Bool.beq, lemmas.Bool.Decides.nat_tests, lemmas.List.get_or_default}

-- `has` is true exactly if `letters` has the letter at `place` of `there`, because this holds of `ring`, and the
-- lists `ring` and `letters` are equal.
pub on_wheel : (ring letters there : List ℕ) (place d : ℕ) (has : Bool) → ring ≡ letters → place < length there
    → (IsTrue has ↔ Contains ring (get_or there place d)) → IsTrue has ↔ Contains letters (slice_index there place)
on_wheel ring letters there place d has same lt h = grind (arith, get_or_default)

-- Each wheel has its letter exactly if none of the six tests for this is false.
pub none_fails : (letters : List ℕ) (h1 h2 h3 h4 h5 h6 : Bool)
    → (IsTrue h1 ↔ Contains (ring_of 1) (slice_index letters 0))
    → (IsTrue h2 ↔ Contains (ring_of 2) (slice_index letters 1))
    → (IsTrue h3 ↔ Contains (ring_of 3) (slice_index letters 2))
    → (IsTrue h4 ↔ Contains (ring_of 4) (slice_index letters 3))
    → (IsTrue h5 ↔ Contains (ring_of 5) (slice_index letters 4))
    → (IsTrue h6 ↔ Contains (ring_of 6) (slice_index letters 5))
    → IsTrue (not (beq h1 false || (beq h2 false
    || (beq h3 false || (beq h4 false || (beq h5 false || (beq h6 false || false))))))) ↔ IsEachOnItsWheel letters
none_fails letters h1 h2 h3 h4 h5 h6 a b c d e f =
    grind (arith, nat_tests, each_wheel (λ wheel. Contains (ring_of wheel) (slice_index letters (wheel - 1))))

-- A wheel that has the list's letter at `place` shows this letter after it is turned to it.
pub shows_letter : (ring letters there : List ℕ) (place d shown : ℕ) → ring ≡ letters → place < length there
    → Contains letters (slice_index there place)
    → (Contains ring (get_or there place d) → shown ≡ get_or there place d) → shown ≡ slice_index there place
shows_letter ring letters there place d shown same lt on h = grind (arith, get_or_default)

-- A pin wheel that is turned is still the same pin wheel.
pub pin_wheel_turned : (number size place : ℕ) (wheel turned : TurnedWheel) → IsPinWheel number size wheel
    → turned ≡ wheel_at_place wheel place → IsWheel size turned → IsPinWheel number size turned
pin_wheel_turned number size place wheel turned h e is_wheel = record {
  ring = ap (λ w. w.ring) e ∙ h.ring;
  offset = ap (λ w. w.offset) e ∙ h.offset;
  turned = is_wheel;
}

pub six_letters : (letters : List ℕ) → length letters ≡ 6
    → slice_index letters 0 ∷ slice_index letters 1 ∷ slice_index letters 2 ∷ slice_index letters 3
    ∷ slice_index letters 4 ∷ slice_index letters 5 ∷ [] ≡ letters
six_letters (a ∷ b ∷ c ∷ d ∷ g ∷ h ∷ []) e = refl
six_letters _ e = absurd (omega arith)
