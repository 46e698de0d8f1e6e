-- A machine carries a setting out exactly if it allows the setting, and then changes one thing alone.
use Rattle.kd_state.proofs.Prelude.{numbered_item, place_in_box, AreLegalPinParts, AreLegalRotorParts, IsMachine, pin_set}
use Rattle.kd_state.proofs.Prelude.{wheel_pins, cable_with, cable_without, seat_without, Parts, Pin, Rotor}
use Rattle.kd_state.proofs.Prelude.{PinParts, RotorParts, Setting, LugTo, PinTo, Pull, Put, RingTo, Seat, SeatReflector}
use Rattle.kd_state.proofs.Prelude.{Turn, NoSuchCable, NotThere, NoLooseEnd, SocketTaken, WheelNotAllowed, SlotEmpty}
use Rattle.kd_state.proofs.Prelude.{NotOnWheel, NoSuchBar, PlaceTaken, WouldPass, place_on, box_of, wheels_for, slots_of}
use Rattle.kd_state.proofs.Prelude.{reflectors_of, Wheel, Contains, list_any, cases_eq, not, length-map, length-set}
use Rattle.kd_state.proofs.Prelude.{get_or_from_slice_get, slice_get-get_or, unwrap_or, pins_of}
use Rattle.kd_state.proofs.Prelude.{Bool, List, Option, Some, None, [], ap, arith, false, get_or, inl, inr, length, map}
use Rattle.kd_state.proofs.Prelude.{nat_eq, set, subst, sym, true, ℕ, ◌+◌, ◌-◌, ◌<◌, ◌∙◌, ◌≡◌, Carries}
use Rattle.kd_state.proofs.Prelude.{with_lug, has_letter, has_loose_end, is_same_place, cable_letters, letters_in_cables}
use Rattle.kd_state.proofs.Prelude.{same_wheel, same_reflector, place_rank, demand, ◌>>=◌, ◌>>◌, false_from_ne_true}
use Rattle.kd_state.proofs.Prelude.{is_some, lt-ltb, position-Some}
unfoldable use Rattle.kd_state.proofs.Prelude.{ring_of}
use Rattle.kd_state.proofs.Slots.{numbered_here, numbered_other, numbered_at, is_numbered, IsNumbered, has_letter-Decides}
use Rattle.kd_state.proofs.Slots.{is_some-place_on, place_there, seated_in_box, IsNumbered-not_none}
use Rattle.kd_state.proofs.Wheels.{has_wheel-Decides, has_reflector-Decides, place_within, IsPlaced-from_wheels_for}
use Rattle.kd_state.proofs.Carrying.{is_none-nonempty, Ok-same, seat_made, reflector_made, wheel_turn_made, pin_made}
use Rattle.kd_state.proofs.Carrying.{pulled, was_put, lug_moved}
use Rattle.kd_state.proofs.FirstFault.{found-Ok, demand-Ok}
use Rattle.kd_state.specs.OneChange.{IsItemChanged, MakesOneChange, SettingsChangeOneThing}
use Rattle.std.specs.Prelude.{ok_or, nat_lt, Result, Ok}
use Rattle.std.proofs.lemmas.List.{ext_get_or}

-- ---- lists with one item changed

-- A list with one item changed is the list that `set` makes.
item_set : {X : Type 0} (xs : List X) (number : ℕ) (value x : X) → IsNumbered xs number x
    → IsItemChanged xs number value (set xs (number - 1) value)
item_set xs number value x at = record {
  size = length-set xs (number - 1) value;
  item = numbered_here xs number value at.first at.last;
  others = λ other ne. numbered_other xs number other value at.first ne;
}

item_only : {X : Type 0} (xs ys : List X) (number : ℕ) (value x : X) → IsNumbered xs number x
    → IsItemChanged xs number value ys → set xs (number - 1) value ≡ ys
item_only xs ys number value x at changed =
    let new = set xs (number - 1) value in
    let made = item_set xs number value x at in
    let same : (other : ℕ) → numbered_item new other ≡ numbered_item ys other =
    λ other. elim (cases_eq other number) [
      | inl here ↦ subst (λ n. numbered_item new n ≡ numbered_item ys n) (sym here) (made.item ∙ sym changed.item)
      | inr ne ↦ made.others other ne ∙ sym (changed.others other ne)
    ] in
    ext_get_or x new ys (made.size ∙ sym changed.size) (λ i within.
    sym (get_or_from_slice_get ys i (get_or new i x) x (sym (numbered_at ys i) ∙ sym (same (i + 1)) ∙ numbered_at new i
    ∙ slice_get-get_or new i x within)))

-- the same by the item's place, counted from 0
numbered_place : {X : Type 0} (xs : List X) (place : ℕ) (d : X) → place < length xs
    → IsNumbered xs (place + 1) (get_or xs place d)
numbered_place xs place d within =
    is_numbered xs (place + 1) (get_or xs place d) (numbered_at xs place ∙ slice_get-get_or xs place d within)

place_set : {X : Type 0} (xs : List X) (place : ℕ) (value d : X) → place < length xs
    → IsItemChanged xs (place + 1) value (set xs place value)
place_set xs place value d within =
    subst (λ at. IsItemChanged xs (place + 1) value (set xs at value)) (omega arith)
    (item_set xs (place + 1) value (get_or xs place d) (numbered_place xs place d within))

place_only : {X : Type 0} (xs ys : List X) (place : ℕ) (value d : X) → place < length xs
    → IsItemChanged xs (place + 1) value ys → set xs place value ≡ ys
place_only xs ys place value d within changed =
    ap (λ at. set xs at value) (omega arith)
    ∙ item_only xs ys (place + 1) value (get_or xs place d) (numbered_place xs place d within) changed

-- ---- the items that a setting changes

slot_there : (m : RotorParts) (slot : ℕ) (wheel : Wheel) → AreLegalRotorParts m → Contains (wheels_for m.model slot) wheel
    → (x : Option Wheel) × IsNumbered (map (seat_without wheel) m.slots) slot x
slot_there m slot wheel legal may =
    let at = IsPlaced-from_wheels_for m.model slot wheel may in
    let left = map (seat_without wheel) m.slots in
    let size : length left ≡ slots_of m.model = length-map m.slots (seat_without wheel) ∙ legal.seats.count in
    let place = numbered_place left (slot - 1) None (omega (arith, at.first, at.last, size)) in
    (get_or left (slot - 1) None, subst (λ n. IsNumbered left n (get_or left (slot - 1) None)) (omega (arith, at.first)) place)

wheel_there : (m : RotorParts) (slot : ℕ) (wheel : Wheel) → AreLegalRotorParts m
    → numbered_item m.slots slot ≡ Some (Some wheel) → place_in_box m.model wheel < length m.letters
wheel_there m slot wheel legal holds =
    let in_box = seated_in_box m.model m.slots slot wheel legal.seats.allowed holds in
    omega (arith, legal.letters.count, place_within m.model wheel in_box)

pin_there : (m : PinParts) (wheel letter place : ℕ) → AreLegalPinParts m → place_on (ring_of wheel) letter ≡ Some place
    → IsNumbered (pins_of m.pins) wheel (wheel_pins m.pins wheel) × (place < length (wheel_pins m.pins wheel))
    × (has_letter (ring_of wheel) letter ≡ true)
pin_there m wheel letter place legal there =
    let on = (position-Some (λ (l : ℕ). nat_eq l letter) (ring_of wheel) place 0 there).0 in
    let within : place < length (wheel_pins m.pins wheel) = omega (arith, legal.pins wheel, on) in (
      IsNumbered-not_none (pins_of m.pins) wheel []
          (is_none-nonempty (numbered_item (pins_of m.pins) wheel) place within),
      within,
      sym (is_some-place_on (ring_of wheel) letter) ∙ ap is_some there,
    )

-- ---- a setting that is carried out makes one change, and one change is carried out

-- the steps of `outcome` by what they find and test
finds : {A B F : Type 0} (found : Option A) (fault : F) (next : A → Result B F) (x : A) {after : B} → found ≡ Some x
    → next x ≡ Ok after → (ok_or found fault >>= next) ≡ Ok after
finds found fault next x e then = ap (λ f. ok_or f fault >>= next) e ∙ then

tests : {B F : Type 0} (test : Bool) (fault : F) (next : Result B F) {after : B} → test ≡ true → next ≡ Ok after
    → (demand test fault >> next) ≡ Ok after
tests test fault next e then = ap (λ t. demand t fault >> next) e ∙ then

carries_one : (m after : Parts) (x : Setting) → IsMachine m → Carries m x after → MakesOneChange m x after
carries_one (Rotor m) after (Pull cable letter) h e =
    let p = pulled m cable letter after e in
    let set_so = item_set m.cables cable (cable_without letter p.old) p.old p.there in
    (p.old, p.there.is, (has_letter-Decides (cable_letters p.old) letter).0 p.has, _, set_so, p.made)
carries_one (Rotor m) after (Put cable letter) h e =
    let p = was_put m cable letter after e in
    let free : ¬ (Contains (letters_in_cables m.cables) letter) =
    λ has. cc (p.free, (has_letter-Decides (letters_in_cables m.cables) letter).1 has) in
    let set_so = item_set m.cables cable (cable_with letter p.old) p.old p.there in
    (p.old, p.there.is, ap not p.loose, free, _, set_so, p.made)
carries_one (Rotor m) after (Seat slot wheel) h e =
    let (may, made) = seat_made m slot wheel after e in
    let (was, there) = slot_there m slot wheel h.legal may in
    (may, _, item_set (map (seat_without wheel) m.slots) slot (Some wheel) was there, made)
carries_one (Rotor m) after (SeatReflector reflector) h e = reflector_made m reflector after e
carries_one (Rotor m) after (RingTo wheel letter) h e =
    let (may, made) = demand-Ok (list_any (same_wheel wheel) (box_of m.model)) WheelNotAllowed _ e in
    let in_box = (has_wheel-Decides (box_of m.model) wheel).0 may in
    let within : place_in_box m.model wheel < length m.rings =
    omega (arith, h.legal.rings.count, place_within m.model wheel in_box) in
    (in_box, _, place_set m.rings (place_in_box m.model wheel) letter 0 within, Ok-same made)
carries_one (Rotor m) after (Turn slot letter) h e =
    let (seated, there, more) = found-Ok (numbered_item m.slots slot) SlotEmpty _ e in
    let (wheel, is, made) = found-Ok seated SlotEmpty _ more in
    let holds : numbered_item m.slots slot ≡ Some (Some wheel) = there ∙ ap Some is in
    let within = wheel_there m slot wheel h.legal holds in
    (wheel, holds, _, place_set m.letters (place_in_box m.model wheel) letter 0 within, Ok-same made)
carries_one (Pin m) after (Turn wheel letter) h e =
    let (was, there, has, made) = wheel_turn_made m wheel letter after e in
    let on = (has_letter-Decides (ring_of wheel) letter).0 has in
    (was, there.is, on, _, item_set m.letters wheel letter was there, made)
carries_one (Pin m) after (PinTo wheel letter effective) h e =
    let (has, made) = pin_made m wheel letter effective after e in
    let there = place_there (ring_of wheel) letter ((has_letter-Decides (ring_of wheel) letter).0 has) in
    let (numbered, within, on) = pin_there m wheel letter _ h.legal there in
    (_, there, _, place_set _ _ effective false within, _, item_set (pins_of m.pins) wheel _ _ numbered, made)
carries_one (Pin m) after (LugTo bar lug place) h e =
    let p = lug_moved m bar lug place after e in
    (p.old, p.there.is, p.before, _, item_set m.bars bar (with_lug lug place p.old) p.old p.there, p.made)
carries_one (Rotor m) after x h e = absurd (cc)
carries_one (Pin m) after x h e = absurd (cc)

one_carries : (m after : Parts) (x : Setting) → IsMachine m → MakesOneChange m x after → Carries m x after
one_carries (Rotor m) after (Pull cable letter) h (held, there, has, cables, changed, made) =
    let only = item_only m.cables cables cable _ held (is_numbered m.cables cable held there) changed in
    finds (numbered_item m.cables cable) NoSuchCable _ held there
    (tests (has_letter (cable_letters held) letter) NotThere _ ((has_letter-Decides (cable_letters held) letter).1 has)
    (ap (λ cs. Ok (Rotor (record m { cables = cs }))) only ∙ ap Ok made))
one_carries (Rotor m) after (Put cable letter) h (held, there, loose, free, cables, changed, made) =
    let only = item_only m.cables cables cable _ held (is_numbered m.cables cable held there) changed in
    let none = false_from_ne_true _ (λ has. free ((has_letter-Decides (letters_in_cables m.cables) letter).0 has)) in
    finds (numbered_item m.cables cable) NoSuchCable _ held there
    (tests (has_loose_end held) NoLooseEnd _ loose
    (tests (not (has_letter (letters_in_cables m.cables) letter)) SocketTaken _ (ap not none)
    (ap (λ cs. Ok (Rotor (record m { cables = cs }))) only ∙ ap Ok made)))
one_carries (Rotor m) after (Seat slot wheel) h (may, slots, changed, made) =
    let (was, there) = slot_there m slot wheel h.legal may in
    let only = item_only (map (seat_without wheel) m.slots) slots slot _ was there changed in
    tests (list_any (same_wheel wheel) (wheels_for m.model slot)) WheelNotAllowed _
    ((has_wheel-Decides (wheels_for m.model slot) wheel).1 may)
    (ap (λ ss. Ok (Rotor (record m { slots = ss }))) only ∙ ap Ok made)
one_carries (Rotor m) after (SeatReflector reflector) h (may, made) =
    tests (list_any (same_reflector reflector) (reflectors_of m.model)) WheelNotAllowed _
    ((has_reflector-Decides (reflectors_of m.model) reflector).1 may) (ap Ok made)
one_carries (Rotor m) after (RingTo wheel letter) h (may, rings, changed, made) =
    let within : place_in_box m.model wheel < length m.rings =
    omega (arith, h.legal.rings.count, place_within m.model wheel may) in
    let only = place_only m.rings rings (place_in_box m.model wheel) letter 0 within changed in
    tests (list_any (same_wheel wheel) (box_of m.model)) WheelNotAllowed _
    ((has_wheel-Decides (box_of m.model) wheel).1 may)
    (ap (λ ls. Ok (Rotor (record m { rings = ls }))) only ∙ ap Ok made)
one_carries (Rotor m) after (Turn slot letter) h (wheel, holds, letters, changed, made) =
    let within = wheel_there m slot wheel h.legal holds in
    let only = place_only m.letters letters (place_in_box m.model wheel) letter 0 within changed in
    finds (numbered_item m.slots slot) SlotEmpty _ (Some wheel) holds
    (ap (λ ls. Ok (Rotor (record m { letters = ls }))) only ∙ ap Ok made)
one_carries (Pin m) after (Turn wheel letter) h (shown, there, on, letters, changed, made) =
    let only = item_only m.letters letters wheel letter shown (is_numbered m.letters wheel shown there) changed in
    finds (numbered_item m.letters wheel) SlotEmpty _ shown there
    (tests (has_letter (ring_of wheel) letter) NotOnWheel _ ((has_letter-Decides (ring_of wheel) letter).1 on)
    (ap (λ ls. Ok (Pin (record m { letters = ls }))) only ∙ ap Ok made))
one_carries (Pin m) after (PinTo wheel letter effective) h (place, there, list, of_wheel, lists, of_wheels, made) =
    let (numbered, within, on) = pin_there m wheel letter place h.legal there in
    let one = place_only (wheel_pins m.pins wheel) list place effective false within of_wheel in
    let all = item_only (pins_of m.pins) lists wheel list _ numbered of_wheels in
    let at = ap (λ at. set (wheel_pins m.pins wheel) (unwrap_or at 0) effective) there in
    tests (has_letter (ring_of wheel) letter) NotOnWheel _ on
    (ap (λ ps. Ok (Pin (record m { pins = pin_set ps })))
    (ap (set (pins_of m.pins) (wheel - 1)) (at ∙ one) ∙ all) ∙ ap Ok made)
one_carries (Pin m) after (LugTo bar lug place) h (held, there, before, bars, changed, made) =
    let only = item_only m.bars bars bar _ held (is_numbered m.bars bar held there) changed in
    let new = with_lug lug place held in
    finds (numbered_item m.bars bar) NoSuchBar _ held there
    (tests (not (is_same_place new.0 new.1)) PlaceTaken _ (grind (arith, before))
    (tests (nat_lt (place_rank new.0) (place_rank new.1)) WouldPass _ (lt-ltb _ _ before)
    (ap (λ bs. Ok (Pin (record m { bars = bs }))) only ∙ ap Ok made)))
one_carries (Rotor m) after x h change = absurd change
one_carries (Pin m) after x h change = absurd change

pub settings_change_one_thing : SettingsChangeOneThing
settings_change_one_thing m after x h = (carries_one m after x h, one_carries m after x h)
