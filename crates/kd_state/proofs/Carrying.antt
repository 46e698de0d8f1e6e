-- Lemmas on carrying out settings: a machine stays a machine, and a list of settings has one result.
use Rattle.kd_state.proofs.Prelude.{numbered_item, place_in_box, SettingsKeepMachines, IsSettingInRange, AreLegalSeats}
use Rattle.kd_state.proofs.Prelude.{AreLetters, AreOnWheels, AreLegalPinParts, AreLegalRotorParts, IsMachine, IsSeatedAt}
use Rattle.kd_state.proofs.Prelude.{with_cables_in_order, cable_in_order, letters_in_cables, pin_set, wheel_pins}
use Rattle.kd_state.proofs.Prelude.{with_pin, cable_with, cable_without, seat_without, Parts, Pin, Rotor, PinParts}
use Rattle.kd_state.proofs.Prelude.{RotorParts, Setting, LugTo, PinTo, Pull, Put, RingTo, Seat, SeatReflector, Turn}
use Rattle.kd_state.proofs.Prelude.{Why, place_on, box_of, reflectors_of, wheels_for, Wheel, both_ways, cases_Bool}
use Rattle.kd_state.proofs.Prelude.{cases_eq, length-map, length-set, map-set, All-cons, All-set, All-tail}
use Rattle.kd_state.proofs.Prelude.{position-Some, All-permutation, none-some, same_Some, slice_get-map}
use Rattle.kd_state.proofs.Prelude.{slice_get_within, All, is_none, option_map, option_or, unwrap_or, pins_of, PinSet}
use Rattle.kd_state.proofs.Prelude.{Bool, List, Option, Some, [], ap, arith, false, inl, inr, length, map, nat_eq, refl}
use Rattle.kd_state.proofs.Prelude.{rules, set, subst, sym, true, ℕ, ◌+◌, ◌-◌, ◌<◌, ◌∙◌, ◌∷◌, ◌≡◌, ◌≢◌, ◌⊎◌}
use Rattle.kd_state.proofs.Prelude.{common_steps, IsDistinct, Carries, Leads, Refuses, ListsHaveOneResult}
use Rattle.kd_state.proofs.Prelude.{ListsKeepMachines, ltb-true, not-true, All-head, take, get_or, ◌++◌}
use Rattle.kd_state.proofs.Prelude.{NoSuchBar, SlotEmpty, with_lug, NoSuchCable, NotThere, NoLooseEnd, SocketTaken}
use Rattle.kd_state.proofs.Prelude.{PlaceTaken, WouldPass, WheelNotAllowed, NotOnWheel, Reflector, Contains, list_any}
use Rattle.kd_state.proofs.Prelude.{same_wheel, same_reflector, has_letter, cable_letters, has_loose_end, is_same_place}
use Rattle.kd_state.proofs.Prelude.{IsBefore, not, place_rank, is_some, ◌&&◌, Lug, Place}
use Rattle.kd_state.proofs.Slots.{numbered_here, numbered_other, has_letter-Decides, place_there, is_numbered}
use Rattle.kd_state.proofs.Slots.{IsNumbered}
use Rattle.kd_state.proofs.{Prelude.IsPermutation, Slots.{IsNumbered-not_none, set_here, set_other}}
use Rattle.std.proofs.lemmas.Map.Keys.{IsDistinct-IsPermutation, IsDistinct-tail, IsDistinct-cons}
use Rattle.kd_state.proofs.Cables.{all_ordered, all_ordered_move, all_ordered_again, ordered_again, without_ordered}
use Rattle.kd_state.proofs.{Cables.{without_moves, with_moves, set_moves}, FirstFault.{found-Ok, demand-Ok}}
use Rattle.kd_tables.proofs.DistinctLetters.{eqb_flips, has_letter-AllByRecursion}
use Rattle.kd_state.proofs.Wheels.{has_wheel-Decides, has_reflector-Decides, same_wheel-Decides}
use Rattle.kd_state.proofs.Wheels.{IsPlaced-from_wheels_for}
unfoldable use Rattle.kd_state.proofs.Prelude.{ring_of}
use Rattle.kd_state.specs.Laws.{LeadsOrRefuses}
use Rattle.kd_state.specs.Setting.{IsFirstIllegal}
use Rattle.std.specs.Prelude.{nat_lt, Result, Ok, IfOk}
use Rattle.std.proofs.{Math.Seq.drop-cons, lemmas.List.{length-take-le, take-append-drop, take_more}}

-- ---- results

abbrev carried_out : Parts → Result Parts Why
carried_out machine = Ok machine

pub Ok-same : {machine after : Parts} → carried_out machine ≡ Ok after → machine ≡ after
Ok-same e = cc

-- What holds of a result, if it is a value, holds of its value; and the other way round.
pub if_carried : (P : Parts → Type 0) {made : Result Parts Why} {after : Parts} → made ≡ Ok after → IfOk made P
    → P after
if_carried P carries holds = subst (λ made. IfOk made P) carries holds

pub when_carried : (P : Parts → Type 0) {made : Result Parts Why} {after : Parts} → made ≡ Ok after → P after
    → IfOk made P
when_carried P carries holds = subst (λ made. IfOk made P) (sym carries) holds

-- ---- machines

pub all_ordered-same : (m : RotorParts) → with_cables_in_order (Rotor m) ≡ Rotor m → all_ordered m.cables ≡ m.cables
all_ordered-same m e =
    let same : record m { cables = all_ordered m.cables } ≡ m = cc in ap (λ (k : RotorParts). k.cables) same

rotor_machine : (m : RotorParts) → AreLegalRotorParts m → all_ordered m.cables ≡ m.cables → IsMachine (Rotor m)
rotor_machine m legal e = record { legal = legal; cables = ap (λ cs. Rotor (record m { cables = cs })) e }

pin_machine : (m : PinParts) → AreLegalPinParts m → IsMachine (Pin m)
pin_machine m legal = record { legal = legal; cables = refl }

-- ---- cables

-- the letters are all different and below 26
record AreFreeLetters (letters : List ℕ) : Type 0 where
  within : All (λ letter. letter < 26) letters
  apart : IsDistinct nat_eq letters

moved_free : (letters others : List ℕ) → IsPermutation letters others → AreFreeLetters letters → AreFreeLetters others
moved_free letters others moved h = search (rules, All-permutation, moved, IsDistinct-IsPermutation, eqb_flips)

with_cable : (m : RotorParts) (cable : ℕ) (new : Option ℕ × Option ℕ) → IsMachine (Rotor m)
    → cable_in_order new.0 new.1 ≡ new
    → AreFreeLetters (letters_in_cables (set m.cables (cable - 1) new))
    → IsMachine (Rotor (record m { cables = set m.cables (cable - 1) new }))
with_cable m cable new h o free = grind (arith, length-set, rotor_machine, map-set, cable_in_order, all_ordered-same)

-- legal parts are a machine's once the letters of each cable are in order
pub ordered_parts : (m : RotorParts) → AreLegalRotorParts m → IsMachine (with_cables_in_order (Rotor m))
ordered_parts m l =
    let free =
    moved_free _ _ (all_ordered_move m.cables) (record { within = l.cables.within; apart = l.cables.apart }) in
    grind (arith, rotor_machine, length-map, all_ordered_again)

-- ---- slots

left_standing : (wheel other : Wheel) (held : Option (Option Wheel))
    → option_map (seat_without wheel) held ≡ Some (Some other) → (held ≡ Some (Some other)) × (other ≢ wheel)
left_standing wheel other held e = grind (arith, same_Some, cases_Bool, none-some, both_ways, same_wheel-Decides)

-- after `wheel` was put into the slot at place `at`, the wheel in a slot is `wheel` at this place, or another
-- wheel that was in its slot before
seat_cases : (slots : List (Option Wheel)) (at : ℕ) (wheel : Wheel) (place : ℕ) (other : Wheel)
    → IsSeatedAt (set (map (seat_without wheel) slots) at (Some wheel)) place other
    → ((place ≡ at) × (other ≡ wheel)) ⊎ (IsSeatedAt slots place other × (other ≢ wheel))
seat_cases slots at wheel place other stands =
    let cases = cases_eq place at in
    grind (arith, cases, slice_get_within, length-set, set_here, same_Some, left_standing, set_other, slice_get-map)

-- ---- rings and window letters

pub letters_set : (number : ℕ) (letters : List ℕ) (place letter : ℕ) → letter < 26 → AreLetters number letters
    → AreLetters number (set letters place letter)
letters_set number letters place letter within h = grind (arith, common_steps, length-set, All-set)

pub with_letters : (m : RotorParts) (rings letters : List ℕ) → IsMachine (Rotor m)
    → AreLetters (length (box_of m.model)) rings → AreLetters (length (box_of m.model)) letters
    → IsMachine (Rotor (record m { rings = rings; letters = letters }))
with_letters m rings letters h are also = grind (arith, rotor_machine, all_ordered-same)

-- ---- the Converter

-- if one of the six lists of pins is replaced, the `PinSet` made of the lists has exactly these lists
pub six_lists : (pins : PinSet) (place : ℕ) (list : List Bool)
    → pins_of (pin_set (set (pins_of pins) place list)) ≡ set (pins_of pins) place list
six_lists pins place list = grind arith

pub is_none-nonempty : (found : Option (List Bool)) (place : ℕ) → place < length (unwrap_or found [])
    → is_none found ≡ false
is_none-nonempty found place within = grind arith

-- ---- each setting

-- ---- what a setting that is carried out needed, and what it made of the machine

pub seat_made : (m : RotorParts) (slot : ℕ) (wheel : Wheel) (after : Parts) → Carries (Rotor m) (Seat slot wheel) after
    → Contains (wheels_for m.model slot) wheel
    × (Rotor (record m { slots = set (map (seat_without wheel) m.slots) (slot - 1) (Some wheel) }) ≡ after)
seat_made m slot wheel after e =
    let (may, made) = demand-Ok (list_any (same_wheel wheel) (wheels_for m.model slot)) WheelNotAllowed _ e in
    ((has_wheel-Decides (wheels_for m.model slot) wheel).0 may, Ok-same made)

pub reflector_made : (m : RotorParts) (reflector : Reflector) (after : Parts)
    → Carries (Rotor m) (SeatReflector reflector) after
    → Contains (reflectors_of m.model) reflector × (Rotor (record m { reflector = reflector }) ≡ after)
reflector_made m reflector after e =
    let (may, made) = demand-Ok (list_any (same_reflector reflector) (reflectors_of m.model)) WheelNotAllowed _ e in
    ((has_reflector-Decides (reflectors_of m.model) reflector).0 may, Ok-same made)

pub ring_made : (m : RotorParts) (wheel : Wheel) (letter : ℕ) (after : Parts)
    → Carries (Rotor m) (RingTo wheel letter) after
    → Rotor (record m { rings = set m.rings (place_in_box m.model wheel) letter }) ≡ after
ring_made m wheel letter after e =
    Ok-same (demand-Ok (list_any (same_wheel wheel) (box_of m.model)) WheelNotAllowed _ e).1

pub turn_made : (m : RotorParts) (slot letter : ℕ) (after : Parts) → Carries (Rotor m) (Turn slot letter) after
    → (wheel : Wheel) × (Rotor (record m { letters = set m.letters (place_in_box m.model wheel) letter }) ≡ after)
turn_made m slot letter after e =
    let (seated, there, more) = found-Ok (numbered_item m.slots slot) SlotEmpty _ e in
    let (wheel, is, made) = found-Ok seated SlotEmpty _ more in
    (wheel, Ok-same made)

pub wheel_turn_made : (m : PinParts) (wheel letter : ℕ) (after : Parts) → Carries (Pin m) (Turn wheel letter) after
    → (was : ℕ) × IsNumbered m.letters wheel was × (has_letter (ring_of wheel) letter ≡ true)
    × (Pin (record m { letters = set m.letters (wheel - 1) letter }) ≡ after)
wheel_turn_made m wheel letter after e =
    let (was, there, tested) = found-Ok (numbered_item m.letters wheel) SlotEmpty _ e in
    let (has, made) = demand-Ok (has_letter (ring_of wheel) letter) NotOnWheel _ tested in
    (was, is_numbered m.letters wheel was there, has, Ok-same made)

pub pin_made : (m : PinParts) (wheel letter : ℕ) (effective : Bool) (after : Parts)
    → Carries (Pin m) (PinTo wheel letter effective) after
    → (has_letter (ring_of wheel) letter ≡ true)
    × (Pin (record m { pins = with_pin m.pins wheel letter effective }) ≡ after)
pin_made m wheel letter effective after e =
    let (has, made) = demand-Ok (has_letter (ring_of wheel) letter) NotOnWheel _ e in
    (has, Ok-same made)

-- a letter that is pulled out of a cable was in the cable
pub record IsPulled (m : RotorParts) (cable letter : ℕ) (after : Parts) : Type 0 where
  pub old : Option ℕ × Option ℕ
  pub there : IsNumbered m.cables cable old
  pub has : has_letter (cable_letters old) letter ≡ true
  pub made : Rotor (record m { cables = set m.cables (cable - 1) (cable_without letter old) }) ≡ after

pub pulled : (m : RotorParts) (cable letter : ℕ) (after : Parts) → Carries (Rotor m) (Pull cable letter) after
    → IsPulled m cable letter after
pulled m cable letter after e =
    let (old, there, tested) = found-Ok (numbered_item m.cables cable) NoSuchCable _ e in
    let (has, made) = demand-Ok (has_letter (cable_letters old) letter) NotThere _ tested in
    record { old = old; there = is_numbered m.cables cable old there; has = has; made = Ok-same made }

-- a letter that is put into a cable was in no cable, and the cable had an empty end
pub record IsPut (m : RotorParts) (cable letter : ℕ) (after : Parts) : Type 0 where
  pub old : Option ℕ × Option ℕ
  pub there : IsNumbered m.cables cable old
  pub loose : (is_some old.0 && is_some old.1) ≡ false
  pub free : has_letter (letters_in_cables m.cables) letter ≡ false
  pub made : Rotor (record m { cables = set m.cables (cable - 1) (cable_with letter old) }) ≡ after

pub was_put : (m : RotorParts) (cable letter : ℕ) (after : Parts) → Carries (Rotor m) (Put cable letter) after
    → IsPut m cable letter after
was_put m cable letter after e =
    let (old, there, tested) = found-Ok (numbered_item m.cables cable) NoSuchCable _ e in
    let (loose, more) = demand-Ok (has_loose_end old) NoLooseEnd _ tested in
    let (free, made) = demand-Ok (not (has_letter (letters_in_cables m.cables) letter)) SocketTaken _ more in
    record {
      old = old;
      there = is_numbered m.cables cable old there;
      loose = not-true _ loose;
      free = not-true _ free;
      made = Ok-same made;
    }

-- a lug that is moved doesn't pass the bar's other lug
pub record IsLugMoved (m : PinParts) (bar : ℕ) (lug : Lug) (place : Place) (after : Parts) : Type 0 where
  pub old : Place × Place
  pub there : IsNumbered m.bars bar old
  pub before : IsBefore (with_lug lug place old).0 (with_lug lug place old).1
  pub made : Pin (record m { bars = set m.bars (bar - 1) (with_lug lug place old) }) ≡ after

pub lug_moved : (m : PinParts) (bar : ℕ) (lug : Lug) (place : Place) (after : Parts)
    → Carries (Pin m) (LugTo bar lug place) after → IsLugMoved m bar lug place after
lug_moved m bar lug place after e =
    let (old, there, tested) = found-Ok (numbered_item m.bars bar) NoSuchBar _ e in
    let new = with_lug lug place old in
    let (apart, more) = demand-Ok (not (is_same_place new.0 new.1)) PlaceTaken _ tested in
    let (before, made) = demand-Ok (nat_lt (place_rank new.0) (place_rank new.1)) WouldPass _ more in
    record {
      old = old;
      there = is_numbered m.bars bar old there;
      before = ltb-true _ _ before;
      made = Ok-same made;
    }

carried_rotor : (m : RotorParts) (x : Setting) (after : Parts) → IsMachine (Rotor m) → IsSettingInRange x
    → Carries (Rotor m) x after → IsMachine after
carried_rotor m (Pull cable letter) after h r e =
    let p = pulled m cable letter after e in
    let new = cable_without letter p.old in
    let moves : IsPermutation (letters_in_cables m.cables)
    (letter ∷ letters_in_cables (set m.cables (cable - 1) new)) =
    set_moves [] (letter ∷ []) m.cables (cable - 1) p.old new p.there.here
    (without_moves letter p.old.0 p.old.1 p.has) in
    let free = moved_free _ _ moves (record { within = h.legal.cables.within; apart = h.legal.cables.apart }) in
    subst IsMachine p.made (with_cable m cable new h (without_ordered letter p.old.0 p.old.1) (record {
      within = All-tail (λ (l : ℕ). l < 26) letter _ free.within;
      apart = IsDistinct-tail nat_eq letter _ free.apart;
    }))
carried_rotor m (Put cable letter) after h r e =
    let p = was_put m cable letter after e in
    let moves = set_moves (letter ∷ []) [] m.cables (cable - 1) p.old (cable_with letter p.old) p.there.here
    (with_moves letter p.old.0 p.old.1 p.loose) in
    subst IsMachine p.made
    (with_cable m cable (cable_with letter p.old) h (ordered_again (option_or p.old.0 p.old.1) (Some letter))
    (moved_free _ _ moves (record {
      within = All-cons (λ (l : ℕ). l < 26) letter (letters_in_cables m.cables) r.1 h.legal.cables.within;
      apart =
          IsDistinct-cons nat_eq letter (letters_in_cables m.cables)
          ((has_letter-AllByRecursion (letters_in_cables m.cables) letter).0 p.free) h.legal.cables.apart;
    })))
carried_rotor m (Seat slot wheel) after h r e =
    let l = h.legal in
    let (may, made) = seat_made m slot wheel after e in
    let first = (IsPlaced-from_wheels_for m.model slot wheel may).first in
    let left = map (seat_without wheel) m.slots in
    let cases = seat_cases m.slots (slot - 1) wheel in
    let seats : AreLegalSeats m.model (set left (slot - 1) (Some wheel)) = record {
      count = length-set left (slot - 1) (Some wheel) ∙ length-map m.slots (seat_without wheel) ∙ l.seats.count;
      allowed = λ place other e. elim (cases place other e) [
        | inl here ↦ let one : slot ≡ place + 1 = omega (arith, here.0, first) in rw (← one, here.1) may
        | inr there ↦ l.seats.allowed place other there.0
      ];
      apart = λ place other which here there. grind (arith, cases, l.seats.apart);
    } in
    subst IsMachine made (grind (arith, rotor_machine, all_ordered-same, seats))
carried_rotor m (SeatReflector reflector) after h r e =
    let (may, made) = reflector_made m reflector after e in
    subst IsMachine made (grind (arith, rotor_machine, all_ordered-same))
carried_rotor m (RingTo wheel letter) after h r e =
    let l = h.legal in
    subst IsMachine (ring_made m wheel letter after e)
    (with_letters m _ m.letters h (letters_set _ m.rings (place_in_box m.model wheel) letter r l.rings) l.letters)
carried_rotor m (Turn slot letter) after h r e =
    let l = h.legal in
    let (wheel, made) = turn_made m slot letter after e in
    subst IsMachine made
    (with_letters m m.rings _ h l.rings (letters_set _ m.letters (place_in_box m.model wheel) letter r.1 l.letters))
carried_rotor m x after h r e = absurd (cc)

carried_pin : (m : PinParts) (x : Setting) (after : Parts) → IsMachine (Pin m) → Carries (Pin m) x after
    → IsMachine after
carried_pin m (Turn wheel letter) after h e =
    let l = h.legal in
    let (was, at, has, made) = wheel_turn_made m wheel letter after e in
    let on = (has_letter-Decides (ring_of wheel) letter).0 has in
    let now = numbered_here m.letters wheel letter at.first at.last in
    let letters : AreOnWheels (set m.letters (wheel - 1) letter) = record {
      count = length-set m.letters (wheel - 1) letter ∙ l.letters.count;
      each = λ other shown reads.
          let stood = l.letters.each other shown in
          grind (arith, cases_eq other wheel, shown, same_Some, numbered_other, stood);
    } in
    subst IsMachine made (grind (arith, pin_machine))
carried_pin m (PinTo wheel letter effective) after h e =
    let l = h.legal in
    let (has, made) = pin_made m wheel letter effective after e in
    let place = unwrap_or (place_on (ring_of wheel) letter) 0 in
    let there = place_there (ring_of wheel) letter ((has_letter-Decides (ring_of wheel) letter).0 has) in
    let old = wheel_pins m.pins wheel in
    let within : place < length old =
    omega (arith, l.pins wheel, (position-Some (λ (l : ℕ). nat_eq l letter) (ring_of wheel) place 0 there).0) in
    let at = IsNumbered-not_none (pins_of m.pins) wheel []
    (is_none-nonempty (numbered_item (pins_of m.pins) wheel) place within) in
    let new = set old place effective in
    let pins = with_pin m.pins wheel letter effective in
    let lists = six_lists m.pins (wheel - 1) new in
    let here : wheel_pins pins wheel ≡ new =
    grind (arith, lists, numbered_here (pins_of m.pins) wheel new at.first at.last) in
    let elsewhere : (other : ℕ) → other ≢ wheel → wheel_pins pins other ≡ wheel_pins m.pins other =
    λ other ne. grind (arith, lists, numbered_other (pins_of m.pins) wheel other new at.first ne) in
    subst IsMachine made (grind (arith, pin_machine, cases_eq, length-set, l.pins, elsewhere))
carried_pin m (LugTo bar lug place) after h e =
    let moves = lug_moved m bar lug place after e in
    let before = moves.before in
    let moved : IsMachine (Pin (record m { bars = set m.bars (bar - 1) (with_lug lug place moves.old) })) =
    grind (arith, common_steps, pin_machine, length-set, All-set, before) in
    subst IsMachine moves.made moved
carried_pin m x after h e = absurd (cc)

pub settings_keep_machines : SettingsKeepMachines
settings_keep_machines (Rotor m) after x h r e = carried_rotor m x after h r e
settings_keep_machines (Pin m) after x h r e = carried_pin m x after h e

-- ---- lists of settings

pub lists_keep_machines : ListsKeepMachines
lists_keep_machines m n [] h r l = subst IsMachine (sym l) h
lists_keep_machines m n (x ∷ xs) h r l =
    lists_keep_machines l.0 n xs (settings_keep_machines m l.0 x h (All-head IsSettingInRange x xs r) l.1)
    (All-tail IsSettingInRange x xs r) l.2

pub carries_unique : (m n o : Parts) (x : Setting) → Carries m x n → Carries m x o → n ≡ o
carries_unique m n o x one other = Ok-same (sym one ∙ other)

pub leads_unique : ListsHaveOneResult
leads_unique m n o [] one other = one ∙ sym other
leads_unique m n o (x ∷ xs) one other = grind (arith, leads_unique one.0 n o xs one.2, carries_unique)

-- the first settings of a list
pub leads_join : (m between n : Parts) (front rest : List Setting) → Leads m front between → Leads between rest n
    → Leads m (front ++ rest) n
leads_join m between n [] rest first leads = subst (λ machine. Leads machine rest n) first leads
leads_join m between n (x ∷ front) rest first leads =
    (first.0, first.1, leads_join first.0 between n front rest first.2 leads)

-- if the first `place` settings lead to machine `n`, and the next one changes `n` to `o`, all of these lead
-- to `o`
pub leads_next : (m n o : Parts) (xs : List Setting) (place : ℕ) (x : Setting) → place < length xs
    → get_or xs place x ≡ x
    → Leads m (take place xs) n → Carries n x o → Leads m (take (place + 1) xs) o
leads_next m n o xs place x within is leads carries =
    let joined = leads_join m n o (take place xs) (x ∷ []) leads (o, carries, refl) in
    grind (arith, take_more xs place x within, within, joined)

-- if the settings before `place` lead to machine `n`, and `n` refuses the setting at `place`, this setting is
-- the first that is refused
pub stops_at : (m n : Parts) (xs : List Setting) (place : ℕ) (x : Setting) (why : Why) → place < length xs
    → get_or xs place x ≡ x
    → Leads m (take place xs) n → Refuses n x why → IsFirstIllegal m xs (place + 1) why
stops_at m n xs place x why within is leads refused =
    grind (arith, take-append-drop place xs, drop-cons xs place x within, within, length-take-le place xs (omega arith))

-- ---- settings that lead to a machine have no refused line

refused_behind : (front rest : List Setting) (x : Setting) (m between n : Parts) (why : Why)
    → Leads m (front ++ x ∷ rest) n → Leads m front between → Refuses between x why → ⊥
refused_behind [] rest x m between n why leads at refused = cc (at, leads.1, refused)
refused_behind (y ∷ front) rest x m between n why leads at refused =
    let same = carries_unique m leads.0 at.0 y leads.1 at.1 in
    refused_behind front rest x at.0 between n why
    (subst (λ k. Leads k (front ++ x ∷ rest) n) same leads.2) at.2 refused

pub lead_or_refuse : LeadsOrRefuses
lead_or_refuse m n xs line why leads first = grind (arith, refused_behind)
