-- Lemmas on elements counted from 1: slots, and the letters and pins of the pin wheels.
use Rattle.kd_state.proofs.Prelude.{IsEachOnItsWheel, numbered_item, IsSeatedAt, wheels_for, AreOnWheels, HasAllPins}
use Rattle.kd_state.proofs.Prelude.{has_letter, place_on, box_of, Model, Wheel, cases_Bool, le-ltb, lt-ltb, Decides-eqb}
use Rattle.kd_state.proofs.Prelude.{Decides-like, is_member-Decides, get_or_from_slice_get, gets, slice_get-get_or}
use Rattle.kd_state.proofs.Prelude.{slice_get_within, Decides, is_none, is_some, unwrap_or, PinSet, ring_of, Contains}
use Rattle.kd_state.proofs.Prelude.{List, Option, Some, arith, false, length, nat_eq, refl, set, slice_get, sym, ℕ, ◌+◌}
use Rattle.kd_state.proofs.Prelude.{◌-◌, ◌<◌, ◌≡◌, ◌≢◌, ◌≤◌, common_steps, map, range_with_len, suc, zero}
use Rattle.{std.proofs.Common.add-one, kd_state.proofs.Wheels.{IsPlaced-from_wheels_for, first_within, first_nowhere}}

-- `x` is element `number`, counted from 1: it is at place `number - 1`
pub record IsNumbered {X : Type 0} (xs : List X) (number : ℕ) (x : X) : Type 0 where
  pub first : 1 ≤ number
  pub last : number ≤ length xs
  pub here : slice_get xs (number - 1) ≡ Some x
  pub is : numbered_item xs number ≡ Some x

pub is_numbered : {X : Type 0} (xs : List X) (number : ℕ) (x : X) → numbered_item xs number ≡ Some x
    → IsNumbered xs number x
is_numbered xs number x e = grind (arith, slice_get_within)

pub IsNumbered-not_none : {X : Type 0} (xs : List X) (number : ℕ) (d : X) → is_none (numbered_item xs number) ≡ false
    → IsNumbered xs number (unwrap_or (numbered_item xs number) d)
IsNumbered-not_none xs number d some = grind (arith, is_numbered)

pub numbered_at : {X : Type 0} (xs : List X) (place : ℕ) → numbered_item xs (place + 1) ≡ slice_get xs place
numbered_at xs place = rw add-one refl

-- after `set`, the place that was set has the new value
pub set_here : {X : Type 0} (xs : List X) (place : ℕ) (x : X) → place < length xs
    → slice_get (set xs place x) place ≡ Some x
set_here xs place x below = grind (arith, common_steps, gets)

-- after `set`, the other places have the values that they had
pub set_other : {X : Type 0} (xs : List X) (place at : ℕ) (x : X) → at ≢ place
    → slice_get (set xs place x) at ≡ slice_get xs at
set_other xs place at x h = grind (arith, common_steps, gets)

pub numbered_here : {X : Type 0} (xs : List X) (number : ℕ) (x : X) → 1 ≤ number → number ≤ length xs
    → numbered_item (set xs (number - 1) x) number ≡ Some x
numbered_here xs number x e d = grind (arith, set_here)

pub numbered_other : {X : Type 0} (xs : List X) (number other : ℕ) (x : X) → 1 ≤ number → other ≢ number
    → numbered_item (set xs (number - 1) x) other ≡ numbered_item xs other
numbered_other xs number other x e d = grind (arith, set_other)

-- a wheel in a slot is one of the wheels of the model's box
pub seated_in_box : (model : Model) (slots : List (Option Wheel)) (slot : ℕ) (wheel : Wheel)
    → ((place : ℕ) (w : Wheel) → IsSeatedAt slots place w → Contains (wheels_for model (place + 1)) w)
    → numbered_item slots slot ≡ Some (Some wheel) → Contains (box_of model) wheel
seated_in_box model slots slot wheel allowed e =
    let at = is_numbered slots slot (Some wheel) e in
    (IsPlaced-from_wheels_for model (slot - 1 + 1) wheel (allowed (slot - 1) wheel at.here)).in_box

-- `has_letter` is true exactly if the list contains the letter
pub has_letter-Decides : (letters : List ℕ) (letter : ℕ) → Decides (has_letter letters letter) (Contains letters letter)
has_letter-Decides letters letter =
    is_member-Decides {eq = λ x y. nat_eq y x} (λ x y. Decides-like _ sym sym (Decides-eqb y x)) letters letter

pub is_some-place_on : (letters : List ℕ) (letter : ℕ) → is_some (place_on letters letter) ≡ has_letter letters letter
is_some-place_on letters letter = grind (arith, cases_Bool, lt-ltb, first_within, first_nowhere, le-ltb)

pub letters_have_places : (wheel : ℕ)
    → map (place_on (ring_of wheel)) (ring_of wheel) ≡ map Some (range_with_len 0 (length (ring_of wheel)))
unfolding ring_of
letters_have_places (suc (suc (suc (suc (suc (suc zero)))))) = refl
letters_have_places wheel = refl

pub place_there : (letters : List ℕ) (letter : ℕ) → Contains letters letter
    → place_on letters letter ≡ Some (unwrap_or (place_on letters letter) 0)
place_there letters letter h = grind (arith, is_some-place_on letters letter, has_letter-Decides letters letter)

-- ---- six letters, each on its wheel

pub are_on_wheels : (letters : List ℕ) → length letters ≡ 6 → IsEachOnItsWheel letters → AreOnWheels letters
are_on_wheels letters six on = grind (arith, is_numbered, get_or_from_slice_get, on)

-- arrays of pins of these lengths have a pin for each letter of each wheel
pub all_pins : (pins : PinSet) → length pins.w1 ≡ 26 → length pins.w2 ≡ 25 → length pins.w3 ≡ 23 → length pins.w4 ≡ 21
    → length pins.w5 ≡ 19 → length pins.w6 ≡ 17 → HasAllPins pins
unfolding ring_of
all_pins pins e d g h o q = grind arith

pub stand_on_wheels : (letters : List ℕ) → AreOnWheels letters → IsEachOnItsWheel letters
stand_on_wheels letters e = grind (arith, slice_get-get_or)

pub ruleset on_wheels = (has_letter-Decides, is_some-place_on)
