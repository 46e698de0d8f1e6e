-- What no setting of a list sets stays as it is.
use Rattle.std.proofs.Common.{◌≡◌, ◌≢◌, ℕ, ◌-◌, Bool, true, false, ◌&&◌, nat_eq, List, [], ◌∷◌, arith, set, map}
use Rattle.std.proofs.Common.{refl, ap, subst, ◌∙◌, Option, Some, None, ◌≤◌, zero, suc, length}
use Rattle.std.proofs.lemmas.Option.{slice_get-map}
use Rattle.std.specs.Option.{option_map_or}
use Rattle.std.specs.Prelude.{if◌then◌else◌, nat_le, option_and_then, option_map, slice_get, unwrap_or, is_some, Contains}
use Rattle.std.proofs.lemmas.Grind.{common_steps}
use Rattle.std.specs.List.{list_any}
use Rattle.kd_tables.specs.declared.wheel.Wheel.{Wheel}
use Rattle.kd_tables.specs.declared.model.Model.{Model}
use Rattle.kd_tables.specs.Pairs.{has_letter}
use Rattle.kd_tables.specs.Rings.{place_on}
unfoldable use Rattle.kd_tables.specs.Rings.{ring_of}
use Rattle.kd_tables.specs.Tables.{box_of}
use Rattle.kd_state.specs.declared.machine.parts.Parts.{Parts}
use Rattle.kd_state.specs.declared.machine.pin_parts.PinParts.{PinParts}
use Rattle.kd_state.specs.declared.machine.rotor_parts.RotorParts.{RotorParts}
use Rattle.kd_state.specs.declared.machine.parts.Parts.TheVariants.{Pin, Rotor}
use Rattle.kd_state.specs.declared.setting.Setting.{Setting}
use Rattle.kd_state.specs.declared.setting.Setting.TheVariants.{Pull, Put, Seat, SeatReflector, RingTo, Turn, PinTo}
use Rattle.kd_state.specs.declared.setting.Setting.TheVariants.{LugTo}
use Rattle.kd_state.specs.Machine.{machine_pin, machine_pin_letter, machine_reflector, machine_ring, machine_standing}
use Rattle.kd_state.specs.SameParts.{place_in_box, same_wheel}
use Rattle.kd_state.specs.declared.setting.why.Why.TheVariants.{WheelNotAllowed}
use Rattle.kd_state.specs.Machine.{cable_letters}
use Rattle.kd_state.specs.Pins.{pin_at, wheel_pins, with_pin}
use Rattle.kd_state.specs.SameParts.{numbered_item}
use Rattle.kd_state.specs.Setting.{Carries, Leads, cable_with, cable_without, seat_without}
use Rattle.kd_state.proofs.Carrying.{lug_moved, pin_made, pulled, reflector_made, ring_made, seat_made, turn_made}
use Rattle.kd_state.proofs.Carrying.{was_put, wheel_turn_made}
use Rattle.kd_state.proofs.Carrying.{six_lists}
use Rattle.kd_state.proofs.FirstFault.{demand-Ok}
use Rattle.kd_state.proofs.Prelude.{PinSet, gets, pins_of, position-Some}
use Rattle.kd_state.proofs.Slots.{IsNumbered, has_letter-Decides, numbered_here, numbered_other, place_there, set_other}
use Rattle.kd_state.proofs.Wheels.{IsPlaced-from_wheels_for, first_nowhere, has_wheel-Decides, place_within}
use Rattle.kd_state.proofs.Wheels.{places_determine_wheels, same_wheel_self}
use Rattle.kd_pictures.specs.Board.{has_plug}
use Rattle.kd_pictures.specs.Wheels.{is_seated}
use Rattle.kd_page.specs.Marks.{moves_lug, pulls_plug, puts_plug, puts_wheel, sets_pin, sets_reflector, sets_ring}
use Rattle.kd_page.specs.Marks.{turns_pin_wheel}

-- The first item doesn't pass the test, and no other item does.
pub none_first : {X : Type 0} (p : X → Bool) (x : X) (xs : List X) → list_any p (x ∷ xs) ≡ false
    → (p x ≡ false) × (list_any p xs ≡ false)
none_first p x xs none = (grind (arith, none), grind (arith, none))

-- If each setting that isn't the thing's keeps what is shown of the thing, so does a list of such settings.
pub stays : {A : Type 0} (shown : Parts → A) (sets : Setting → Bool)
    → ((m next : Parts) (x : Setting) → Carries m x next → sets x ≡ false → shown next ≡ shown m)
    → (m n : Parts) (xs : List Setting) → Leads m xs n → list_any sets xs ≡ false → shown n ≡ shown m
stays shown sets step m n [] leads none = ap shown leads
stays shown sets step m n (x ∷ xs) leads none =
    let each = none_first sets x xs none in
    stays shown sets step leads.0 n xs leads.2 each.1 ∙ step m leads.0 x leads.1 each.0

pub keeps : {A : Type 0} (shown : Parts → A) (old : A) {made next : Parts} → made ≡ next → shown made ≡ old
    → shown next ≡ old
keeps shown old is same = subst (λ p. shown p ≡ old) is same

-- Any two Converters show the same of a part that only rotor machines have. So a setting of a Converter keeps it.
pub pin_keeps : {A : Type 0} (shown : Parts → A) → ((m n : PinParts) → shown (Pin n) ≡ shown (Pin m)) → (m : PinParts)
    (next : Parts) (x : Setting) → Carries (Pin m) x next → shown next ≡ shown (Pin m)
pin_keeps shown alike m next (Turn wheel letter) carries =
    keeps shown _ (wheel_turn_made m wheel letter next carries).3 (alike m _)
pin_keeps shown alike m next (PinTo wheel letter effective) carries =
    keeps shown _ (pin_made m wheel letter effective next carries).1 (alike m _)
pin_keeps shown alike m next (LugTo bar lug place) carries =
    keeps shown _ (lug_moved m bar lug place next carries).made (alike m _)
pin_keeps shown alike m next x carries = absurd (cc)

-- Any two rotor machines show the same of a part that only Converters have. So a setting of a rotor machine keeps it.
pub rotor_keeps : {A : Type 0} (shown : Parts → A) → ((m n : RotorParts) → shown (Rotor n) ≡ shown (Rotor m))
    → (m : RotorParts) (next : Parts) (x : Setting) → Carries (Rotor m) x next → shown next ≡ shown (Rotor m)
rotor_keeps shown alike m next (Pull cable letter) carries =
    keeps shown _ (pulled m cable letter next carries).made (alike m _)
rotor_keeps shown alike m next (Put cable letter) carries =
    keeps shown _ (was_put m cable letter next carries).made (alike m _)
rotor_keeps shown alike m next (Seat slot wheel) carries =
    keeps shown _ (seat_made m slot wheel next carries).1 (alike m _)
rotor_keeps shown alike m next (SeatReflector reflector) carries =
    keeps shown _ (reflector_made m reflector next carries).1 (alike m _)
rotor_keeps shown alike m next (RingTo wheel letter) carries =
    keeps shown _ (ring_made m wheel letter next carries) (alike m _)
rotor_keeps shown alike m next (Turn slot letter) carries =
    keeps shown _ (turn_made m slot letter next carries).1 (alike m _)
rotor_keeps shown alike m next x carries = absurd (cc)

reflector_step : (m next : Parts) (x : Setting) → Carries m x next → sets_reflector x ≡ false
    → machine_reflector next ≡ machine_reflector m
reflector_step (Rotor m) next (Pull cable letter) carries none =
    keeps machine_reflector _ (pulled m cable letter next carries).made refl
reflector_step (Rotor m) next (Put cable letter) carries none =
    keeps machine_reflector _ (was_put m cable letter next carries).made refl
reflector_step (Rotor m) next (Seat slot wheel) carries none =
    keeps machine_reflector _ (seat_made m slot wheel next carries).1 refl
reflector_step (Rotor m) next (SeatReflector reflector) carries none = absurd (cc)
reflector_step (Rotor m) next (RingTo wheel letter) carries none =
    keeps machine_reflector _ (ring_made m wheel letter next carries) refl
reflector_step (Rotor m) next (Turn slot letter) carries none =
    keeps machine_reflector _ (turn_made m slot letter next carries).1 refl
reflector_step (Rotor m) next x carries none = absurd (cc)
reflector_step (Pin m) next x carries none = pin_keeps machine_reflector (λ m n. refl) m next x carries

pub reflector_stays : (m n : Parts) (xs : List Setting) → Leads m xs n → list_any sets_reflector xs ≡ false
    → machine_reflector n ≡ machine_reflector m
reflector_stays = stays machine_reflector sets_reflector reflector_step

bar_step : (bar : ℕ) (m next : Parts) (x : Setting) → Carries m x next → moves_lug bar x ≡ false
    → machine_standing next bar ≡ machine_standing m bar
bar_step bar (Rotor m) next x carries none = rotor_keeps (λ p. machine_standing p bar) (λ m n. refl) m next x carries
bar_step bar (Pin m) next (Turn wheel letter) carries none =
    keeps (λ p. machine_standing p bar) _ (wheel_turn_made m wheel letter next carries).3 refl
bar_step bar (Pin m) next (PinTo wheel letter effective) carries none =
    keeps (λ p. machine_standing p bar) _ (pin_made m wheel letter effective next carries).1 refl
bar_step bar (Pin m) next (LugTo other lug place) carries none =
    let moved = lug_moved m other lug place next carries in
    let apart : bar ≢ other = λ same. absurd (grind (arith, same, none)) in
    keeps (λ p. machine_standing p bar) _ moved.made (numbered_other m.bars other bar _ moved.there.first apart)
bar_step bar (Pin m) next x carries none = absurd (cc)

pub bar_stays : (bar : ℕ) (m n : Parts) (xs : List Setting) → Leads m xs n → list_any (moves_lug bar) xs ≡ false
    → machine_standing n bar ≡ machine_standing m bar
bar_stays bar = stays (λ p. machine_standing p bar) (moves_lug bar) (bar_step bar)

letter_step : (wheel : ℕ) (m next : Parts) (x : Setting) → Carries m x next → turns_pin_wheel wheel x ≡ false
    → machine_pin_letter next wheel ≡ machine_pin_letter m wheel
letter_step wheel (Rotor m) next x carries none = rotor_keeps (λ p. machine_pin_letter p wheel) (λ m n. refl) m next x carries
letter_step wheel (Pin m) next (Turn other letter) carries none =
    let turned = wheel_turn_made m other letter next carries in
    let apart : wheel ≢ other = λ same. absurd (grind (arith, same, none)) in
    keeps (λ p. machine_pin_letter p wheel) _ turned.3
    (numbered_other m.letters other wheel letter turned.1.first apart)
letter_step wheel (Pin m) next (PinTo other letter effective) carries none =
    keeps (λ p. machine_pin_letter p wheel) _ (pin_made m other letter effective next carries).1 refl
letter_step wheel (Pin m) next (LugTo bar lug place) carries none =
    keeps (λ p. machine_pin_letter p wheel) _ (lug_moved m bar lug place next carries).made refl
letter_step wheel (Pin m) next x carries none = absurd (cc)

pub letter_stays : (wheel : ℕ) (m n : Parts) (xs : List Setting) → Leads m xs n → list_any (turns_pin_wheel wheel) xs ≡ false
    → machine_pin_letter n wheel ≡ machine_pin_letter m wheel
letter_stays wheel = stays (λ p. machine_pin_letter p wheel) (turns_pin_wheel wheel) (letter_step wheel)

-- Two wheels, one of them in the box, have different places in the box.
pub ring_apart : (model : Model) (wheel other : Wheel) (has : Bool) → list_any (same_wheel wheel) (box_of model) ≡ has
    → Contains (box_of model) other → same_wheel wheel other ≡ false
    → place_in_box model wheel ≢ place_in_box model other
ring_apart model wheel other true is in_box differs same =
    let one = places_determine_wheels model wheel other ((has_wheel-Decides (box_of model) wheel).0 is) in_box same in
    absurd (grind (arith, one, differs, same_wheel_self other))
ring_apart model wheel other false is in_box differs same =
    absurd (omega (arith, place_within model other in_box, first_nowhere (same_wheel wheel) (box_of model) is, same))

ring_step : (wheel : Wheel) (m next : Parts) (x : Setting) → Carries m x next → sets_ring wheel x ≡ false
    → machine_ring next wheel ≡ machine_ring m wheel
ring_step wheel (Rotor m) next (Pull cable letter) carries none =
    keeps (λ p. machine_ring p wheel) _ (pulled m cable letter next carries).made refl
ring_step wheel (Rotor m) next (Put cable letter) carries none =
    keeps (λ p. machine_ring p wheel) _ (was_put m cable letter next carries).made refl
ring_step wheel (Rotor m) next (Seat slot seated) carries none =
    keeps (λ p. machine_ring p wheel) _ (seat_made m slot seated next carries).1 refl
ring_step wheel (Rotor m) next (SeatReflector reflector) carries none =
    keeps (λ p. machine_ring p wheel) _ (reflector_made m reflector next carries).1 refl
ring_step wheel (Rotor m) next (RingTo other letter) carries none =
    let may = (demand-Ok (list_any (same_wheel other) (box_of m.model)) WheelNotAllowed _ carries).0 in
    let in_box = (has_wheel-Decides (box_of m.model) other).0 may in
    let apart = ring_apart m.model wheel other (list_any (same_wheel wheel) (box_of m.model)) refl in_box none in
    keeps (λ p. machine_ring p wheel) _ (ring_made m other letter next carries)
    (set_other m.rings (place_in_box m.model other) (place_in_box m.model wheel) letter apart)
ring_step wheel (Rotor m) next (Turn slot letter) carries none =
    keeps (λ p. machine_ring p wheel) _ (turn_made m slot letter next carries).1 refl
ring_step wheel (Rotor m) next x carries none = absurd (cc)
ring_step wheel (Pin m) next x carries none = pin_keeps (λ p. machine_ring p wheel) (λ m n. refl) m next x carries

pub ring_stays : (wheel : Wheel) (m n : Parts) (xs : List Setting) → Leads m xs n → list_any (sets_ring wheel) xs ≡ false
    → machine_ring n wheel ≡ machine_ring m wheel
ring_stays wheel = stays (λ p. machine_ring p wheel) (sets_ring wheel) (ring_step wheel)

-- ---- What is so, or isn't so, stays so.

stays_so : (shown : Parts → Bool) (sets : Setting → Bool) (so : Bool)
    → ((m next : Parts) (x : Setting) → Carries m x next → sets x ≡ false → shown m ≡ so → shown next ≡ so)
    → (m n : Parts) (xs : List Setting) → Leads m xs n → list_any sets xs ≡ false → shown m ≡ so → shown n ≡ so
stays_so shown sets so step m n [] leads none was = ap shown leads ∙ was
stays_so shown sets so step m n (x ∷ xs) leads none was =
    let each = none_first sets x xs none in
    stays_so shown sets so step leads.0 n xs leads.2 each.1 (step m leads.0 x leads.1 each.0 was)

-- A cable in which a letter isn't, after another letter is put into it or pulled out of it.
still_without : (old : Option ℕ × Option ℕ) (letter at : ℕ) → has_letter (cable_letters old) letter ≡ false
    → has_letter (cable_letters (cable_without at old)) letter ≡ false
still_without (None, None) letter at has = grind (arith, has)
still_without (Some a, None) letter at has = grind (arith, has)
still_without (None, Some b) letter at has = grind (arith, has)
still_without (Some a, Some b) letter at has = grind (arith, has)

not_put : (old : Option ℕ × Option ℕ) (letter at : ℕ) → nat_eq letter at ≡ false
    → has_letter (cable_letters old) letter ≡ false → has_letter (cable_letters (cable_with at old)) letter ≡ false
not_put (None, None) letter at other has = grind (arith, has, other)
not_put (Some a, None) letter at other has = grind (arith, has, other)
not_put (None, Some b) letter at other has = grind (arith, has, other)
not_put (Some a, Some b) letter at other has = grind (arith, has, other)

-- A cable after another cable, or the cable itself, has changed.
changed_cable : (cables : List (Option ℕ × Option ℕ)) (other cable letter : ℕ) (old new : Option ℕ × Option ℕ)
    → IsNumbered cables other old → (so same : Bool) → nat_eq cable other ≡ same
    → (same ≡ true → has_letter (cable_letters old) letter ≡ so → has_letter (cable_letters new) letter ≡ so)
    → has_letter (cable_letters (unwrap_or (numbered_item cables cable) (None, None))) letter ≡ so
    → has_letter (cable_letters (unwrap_or (numbered_item (set cables (other - 1) new) cable) (None, None))) letter ≡ so
changed_cable cables other cable letter old new there so true is changes was =
    let one : cable ≡ other = grind (arith, is) in
    let here = numbered_here cables other new there.first there.last in
    let old_has : has_letter (cable_letters old) letter ≡ so = grind (arith, was, one, there.is) in
    let new_has = changes refl old_has in
    grind (arith, one, here, new_has)
changed_cable cables other cable letter old new there so false is changes was =
    let apart : cable ≢ other = λ same. absurd (grind (arith, same, is)) in
    let same = numbered_other cables other cable new there.first apart in
    grind (arith, same, was)

still_pulled : (old : Option ℕ × Option ℕ) (letter at : ℕ) → nat_eq letter at ≡ false
    → has_letter (cable_letters old) at ≡ true → has_letter (cable_letters old) letter ≡ true
    → has_letter (cable_letters (cable_without at old)) letter ≡ true
still_pulled (None, None) letter at other there has = grind (arith, has, there, other)
still_pulled (Some a, None) letter at other there has = grind (arith, has, there, other)
still_pulled (None, Some b) letter at other there has = grind (arith, has, there, other)
still_pulled (Some a, Some b) letter at other there has = grind (arith, has, there, other)

still_put : (old : Option ℕ × Option ℕ) (letter at : ℕ) → (is_some old.0 && is_some old.1) ≡ false
    → has_letter (cable_letters old) letter ≡ true → has_letter (cable_letters (cable_with at old)) letter ≡ true
still_put (None, None) letter at loose has = grind (arith, has)
still_put (Some a, None) letter at loose has = grind (arith, has)
still_put (None, Some b) letter at loose has = grind (arith, has)
still_put (Some a, Some b) letter at loose has = absurd (grind (arith, loose))

plug_in_step : (cable letter : ℕ) (m next : Parts) (x : Setting) → Carries m x next → puts_plug cable letter x ≡ false
    → has_plug m cable letter ≡ false → has_plug next cable letter ≡ false
plug_in_step cable letter (Rotor m) next (Pull other at) carries none was =
    let p = pulled m other at next carries in
    keeps (λ q. has_plug q cable letter) false p.made
    (changed_cable m.cables other cable letter p.old (cable_without at p.old) p.there false (nat_eq cable other) refl
    (λ same has. still_without p.old letter at has) was)
plug_in_step cable letter (Rotor m) next (Put other at) carries none was =
    let p = was_put m other at next carries in
    keeps (λ q. has_plug q cable letter) false p.made
    (changed_cable m.cables other cable letter p.old (cable_with at p.old) p.there false (nat_eq cable other) refl
    (λ same has. not_put p.old letter at (grind (arith, none, same)) has) was)
plug_in_step cable letter (Rotor m) next (Seat slot wheel) carries none was =
    keeps (λ p. has_plug p cable letter) false (seat_made m slot wheel next carries).1 was
plug_in_step cable letter (Rotor m) next (SeatReflector reflector) carries none was =
    keeps (λ p. has_plug p cable letter) false (reflector_made m reflector next carries).1 was
plug_in_step cable letter (Rotor m) next (RingTo wheel to) carries none was =
    keeps (λ p. has_plug p cable letter) false (ring_made m wheel to next carries) was
plug_in_step cable letter (Rotor m) next (Turn slot to) carries none was =
    keeps (λ p. has_plug p cable letter) false (turn_made m slot to next carries).1 was
plug_in_step cable letter (Rotor m) next x carries none was = absurd (cc)
plug_in_step cable letter (Pin m) next x carries none was = pin_keeps (λ p. has_plug p cable letter) (λ m n. refl) m next x carries ∙ was

pub plug_stays_out : (cable letter : ℕ) (m n : Parts) (xs : List Setting) → Leads m xs n
    → list_any (puts_plug cable letter) xs ≡ false → has_plug m cable letter ≡ false → has_plug n cable letter ≡ false
plug_stays_out cable letter =
    stays_so (λ p. has_plug p cable letter) (puts_plug cable letter) false (plug_in_step cable letter)

plug_out_step : (cable letter : ℕ) (m next : Parts) (x : Setting) → Carries m x next → pulls_plug cable letter x ≡ false
    → has_plug m cable letter ≡ true → has_plug next cable letter ≡ true
plug_out_step cable letter (Rotor m) next (Pull other at) carries none was =
    let p = pulled m other at next carries in
    keeps (λ q. has_plug q cable letter) true p.made
    (changed_cable m.cables other cable letter p.old (cable_without at p.old) p.there true (nat_eq cable other) refl
    (λ same has. still_pulled p.old letter at (grind (arith, none, same)) p.has has) was)
plug_out_step cable letter (Rotor m) next (Put other at) carries none was =
    let p = was_put m other at next carries in
    keeps (λ q. has_plug q cable letter) true p.made
    (changed_cable m.cables other cable letter p.old (cable_with at p.old) p.there true (nat_eq cable other) refl
    (λ same has. still_put p.old letter at p.loose has) was)
plug_out_step cable letter (Rotor m) next (Seat slot wheel) carries none was =
    keeps (λ p. has_plug p cable letter) true (seat_made m slot wheel next carries).1 was
plug_out_step cable letter (Rotor m) next (SeatReflector reflector) carries none was =
    keeps (λ p. has_plug p cable letter) true (reflector_made m reflector next carries).1 was
plug_out_step cable letter (Rotor m) next (RingTo wheel to) carries none was =
    keeps (λ p. has_plug p cable letter) true (ring_made m wheel to next carries) was
plug_out_step cable letter (Rotor m) next (Turn slot to) carries none was =
    keeps (λ p. has_plug p cable letter) true (turn_made m slot to next carries).1 was
plug_out_step cable letter (Rotor m) next x carries none was = absurd (cc)
plug_out_step cable letter (Pin m) next x carries none was = pin_keeps (λ p. has_plug p cable letter) (λ m n. refl) m next x carries ∙ was

pub plug_stays_in : (cable letter : ℕ) (m n : Parts) (xs : List Setting) → Leads m xs n
    → list_any (pulls_plug cable letter) xs ≡ false → has_plug m cable letter ≡ true → has_plug n cable letter ≡ true
plug_stays_in cable letter =
    stays_so (λ p. has_plug p cable letter) (pulls_plug cable letter) true (plug_out_step cable letter)

-- ---- Pins.

-- a Converter has the wheel if the wheel has a letter
has_wheel : (wheel letter : ℕ) → has_letter (ring_of wheel) letter ≡ true → (1 ≤ wheel) × (wheel ≤ 6)
unfolding ring_of
has_wheel zero letter has = absurd (cc)
has_wheel (suc (suc (suc (suc (suc (suc (suc wheel))))))) letter has = absurd (cc)
has_wheel wheel letter has = (omega arith, omega arith)

-- Letters at one place are one letter.
one_place : (ring : List ℕ) (letter at place : ℕ) → place_on ring letter ≡ Some place → place_on ring at ≡ Some place
    → letter ≡ at
one_place ring letter at place one two =
    let here = position-Some (λ (l : ℕ). nat_eq l letter) ring place 0 one in
    let there = position-Some (λ (l : ℕ). nat_eq l at) ring place 0 two in
    grind (arith, here, there)

-- The pins of the wheel on which a pin is set.
here_set : (pins : PinSet) (wheel at : ℕ) (effective : Bool) → has_letter (ring_of wheel) at ≡ true
    → wheel_pins (with_pin pins wheel at effective) wheel
    ≡ set (wheel_pins pins wheel) (unwrap_or (place_on (ring_of wheel) at) 0) effective
here_set pins wheel at effective has =
    let new = set (wheel_pins pins wheel) (unwrap_or (place_on (ring_of wheel) at) 0) effective in
    let within = has_wheel wheel at has in
    grind (arith, six_lists pins (wheel - 1) new, numbered_here (pins_of pins) wheel new within.0 within.1)

there_set : (pins : PinSet) (wheel other at : ℕ) (effective : Bool) → has_letter (ring_of other) at ≡ true
    → wheel ≢ other → wheel_pins (with_pin pins other at effective) wheel ≡ wheel_pins pins wheel
there_set pins wheel other at effective has apart =
    let new = set (wheel_pins pins other) (unwrap_or (place_on (ring_of other) at) 0) effective in
    let within = has_wheel other at has in
    grind (arith, six_lists pins (other - 1) new, numbered_other (pins_of pins) other wheel new within.0 apart)

-- Another place of a list of pins.
place_kept : (old : List Bool) (place : ℕ) (effective : Bool) (found : Option ℕ) → found ≢ Some place
    → option_and_then (slice_get (set old place effective)) found ≡ option_and_then (slice_get old) found
place_kept old place effective None apart = refl
place_kept old place effective (Some other) apart =
    set_other old place other effective (λ same. apart (ap Some same))

pin_kept : (pins : PinSet) (wheel letter other at : ℕ) (effective same : Bool) → has_letter (ring_of other) at ≡ true
    → nat_eq wheel other ≡ same → (same && nat_eq letter at) ≡ false
    → pin_at (with_pin pins other at effective) wheel letter ≡ pin_at pins wheel letter
pin_kept pins wheel letter other at effective false has is none =
    let apart : wheel ≢ other = λ same. absurd (grind (arith, same, is)) in
    ap (λ list. option_and_then (slice_get list) (place_on (ring_of wheel) letter))
    (there_set pins wheel other at effective has apart)
pin_kept pins wheel letter other at effective true has is none =
    let one : wheel ≡ other = grind (arith, is) in
    let place = unwrap_or (place_on (ring_of other) at) 0 in
    let found = place_there (ring_of other) at ((has_letter-Decides (ring_of other) at).0 has) in
    let apart : place_on (ring_of other) letter ≢ Some place = λ same.
    let letters = one_place (ring_of other) letter at place same found in absurd (grind (arith, letters, none)) in
    rw one (ap (λ list. option_and_then (slice_get list) (place_on (ring_of other) letter))
    (here_set pins other at effective has)
    ∙ place_kept (wheel_pins pins other) place effective (place_on (ring_of other) letter) apart)

pin_step : (wheel letter : ℕ) (m next : Parts) (x : Setting) → Carries m x next → sets_pin wheel letter x ≡ false
    → machine_pin next wheel letter ≡ machine_pin m wheel letter
pin_step wheel letter (Rotor m) next x carries none = rotor_keeps (λ p. machine_pin p wheel letter) (λ m n. refl) m next x carries
pin_step wheel letter (Pin m) next (Turn other to) carries none =
    keeps (λ p. machine_pin p wheel letter) _ (wheel_turn_made m other to next carries).3 refl
pin_step wheel letter (Pin m) next (PinTo other at effective) carries none =
    let made = pin_made m other at effective next carries in
    keeps (λ p. machine_pin p wheel letter) _ made.1
    (pin_kept m.pins wheel letter other at effective (nat_eq wheel other) made.0 refl none)
pin_step wheel letter (Pin m) next (LugTo bar lug place) carries none =
    keeps (λ p. machine_pin p wheel letter) _ (lug_moved m bar lug place next carries).made refl
pin_step wheel letter (Pin m) next x carries none = absurd (cc)

pub pin_stays : (wheel letter : ℕ) (m n : Parts) (xs : List Setting) → Leads m xs n
    → list_any (sets_pin wheel letter) xs ≡ false → machine_pin n wheel letter ≡ machine_pin m wheel letter
pin_stays wheel letter = stays (λ p. machine_pin p wheel letter) (sets_pin wheel letter) (pin_step wheel letter)

-- ---- Wheels in slots.

-- whether what the slot holds is the wheel
abbrev holds : Wheel → Option (Option Wheel) → Bool
holds wheel item = option_map_or (λ seated. option_map_or (same_wheel wheel) seated false) item false

numbered_item-map : {A B : Type 0} (f : A → B) (xs : List A) (number : ℕ)
    → numbered_item (map f xs) number ≡ option_map f (numbered_item xs number)
numbered_item-map f xs zero = refl
numbered_item-map f xs (suc place) = slice_get-map f xs place

numbered_set : {X : Type 0} (xs : List X) (number : ℕ) (x : X) → 1 ≤ number → (within : Bool)
    → nat_le number (length xs) ≡ within
    → numbered_item (set xs (number - 1) x) number ≡ (if within then Some x else None)
numbered_set xs number x first true is = numbered_here xs number x first (grind (arith, is))
numbered_set xs number x first false is = grind (arith, common_steps, gets, is)

without_held : (wheel seated : Wheel) (item : Option (Option Wheel)) → holds wheel item ≡ false
    → holds wheel (option_map (seat_without seated) item) ≡ false
without_held wheel seated None was = refl
without_held wheel seated (Some None) was = refl
without_held wheel seated (Some (Some other)) was =
    elim (same_wheel seated other) as (λ same. holds wheel (Some (if same then None else Some other)) ≡ false) [
      | true ↦ refl
      | false ↦ was
    ]

pub are_equal : (one other : ℕ) → nat_eq one other ≡ true → one ≡ other
are_equal one other is = grind (arith, is)

differ : (one other : ℕ) → nat_eq one other ≡ false → one ≢ other
differ one other is same = absurd (grind (arith, same, is))

-- A slot that was set, if the machine has it.
set_held : (wheel seated : Wheel) (within : Bool) → same_wheel wheel seated ≡ false
    → holds wheel (if within then Some (Some seated) else None) ≡ false
set_held wheel seated true differs = differs
set_held wheel seated false differs = refl

seat_kept : (slots : List (Option Wheel)) (slot other : ℕ) (wheel seated : Wheel) (same : Bool) → 1 ≤ other
    → nat_eq slot other ≡ same → (same && same_wheel wheel seated) ≡ false
    → holds wheel (numbered_item slots slot) ≡ false
    → holds wheel (numbered_item (set (map (seat_without seated) slots) (other - 1) (Some seated)) slot) ≡ false
seat_kept slots slot other wheel seated true first is none was =
    let one = are_equal slot other is in
    let left = map (seat_without seated) slots in
    rw one (rw (numbered_set left other (Some seated) first (nat_le other (length left)) refl)
    (set_held wheel seated (nat_le other (length left)) none))
seat_kept slots slot other wheel seated false first is none was =
    let apart = differ slot other is in
    let left = map (seat_without seated) slots in
    rw (numbered_other left other slot (Some seated) first apart) (rw (numbered_item-map (seat_without seated) slots slot)
    (without_held wheel seated (numbered_item slots slot) was))

wheel_step : (slot : ℕ) (wheel : Wheel) (m next : Parts) (x : Setting) → Carries m x next
    → puts_wheel slot wheel x ≡ false → is_seated m slot wheel ≡ false → is_seated next slot wheel ≡ false
wheel_step slot wheel (Rotor m) next (Pull cable at) carries none was =
    keeps (λ p. is_seated p slot wheel) false (pulled m cable at next carries).made was
wheel_step slot wheel (Rotor m) next (Put cable at) carries none was =
    keeps (λ p. is_seated p slot wheel) false (was_put m cable at next carries).made was
wheel_step slot wheel (Rotor m) next (Seat other seated) carries none was =
    let made = seat_made m other seated next carries in
    keeps (λ p. is_seated p slot wheel) false made.1 (seat_kept m.slots slot other wheel seated (nat_eq slot other)
    (IsPlaced-from_wheels_for m.model other seated made.0).first refl none was)
wheel_step slot wheel (Rotor m) next (SeatReflector reflector) carries none was =
    keeps (λ p. is_seated p slot wheel) false (reflector_made m reflector next carries).1 was
wheel_step slot wheel (Rotor m) next (RingTo other to) carries none was =
    keeps (λ p. is_seated p slot wheel) false (ring_made m other to next carries) was
wheel_step slot wheel (Rotor m) next (Turn other to) carries none was =
    keeps (λ p. is_seated p slot wheel) false (turn_made m other to next carries).1 was
wheel_step slot wheel (Rotor m) next x carries none was = absurd (cc)
wheel_step slot wheel (Pin m) next x carries none was = pin_keeps (λ p. is_seated p slot wheel) (λ m n. refl) m next x carries ∙ was

pub wheel_stays_out : (slot : ℕ) (wheel : Wheel) (m n : Parts) (xs : List Setting) → Leads m xs n
    → list_any (puts_wheel slot wheel) xs ≡ false → is_seated m slot wheel ≡ false → is_seated n slot wheel ≡ false
wheel_stays_out slot wheel =
    stays_so (λ p. is_seated p slot wheel) (puts_wheel slot wheel) false (wheel_step slot wheel)
