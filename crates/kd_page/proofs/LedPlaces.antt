-- A machine to which a page's settings lead has what the boxes stand at.
use Rattle.std.proofs.Common.{◌≡◌, ◌≢◌, ℕ, ◌+◌, ◌-◌, ◌<◌, ◌≤◌, Bool, true, false, ◌&&◌, nat_eq, List, [], ◌∷◌, arith}
use Rattle.std.proofs.Common.{◌⊎◌, inl, inr, refl, ap, sym, subst, ◌∙◌, Option, Some, None, zero, suc, length, get_or}
use Rattle.std.proofs.lemmas.Grind.{common_steps}
use Rattle.std.proofs.lemmas.List.FromFn.{get_or-range_with_len}
use Rattle.std.specs.List.{list_any}
use Rattle.std.specs.Prelude.{if◌then◌else◌, is_some}
use Rattle.kd_tables.specs.declared.wheel.Wheel.{Wheel}
use Rattle.kd_tables.specs.Pairs.{has_letter}
use Rattle.kd_tables.specs.Rings.{ring_of}
use Rattle.kd_state.specs.declared.machine.parts.Parts.{Parts}
use Rattle.kd_state.specs.declared.machine.parts.Parts.TheVariants.{Pin, Rotor}
use Rattle.kd_state.specs.declared.machine.pin_parts.PinParts.{PinParts}
use Rattle.kd_state.specs.declared.machine.rotor_parts.RotorParts.{RotorParts}
use Rattle.kd_state.specs.declared.setting.Setting.{Setting}
use Rattle.kd_state.specs.declared.setting.Setting.TheVariants.{Pull, Put, Seat, SeatReflector, RingTo, Turn, PinTo}
use Rattle.kd_state.specs.declared.setting.Setting.TheVariants.{LugTo}
use Rattle.kd_state.specs.declared.setting.why.Why.TheVariants.{SlotEmpty}
use Rattle.kd_state.specs.Machine.{IsMachine, machine_pin, machine_slot}
use Rattle.kd_state.specs.SameParts.{numbered_item}
use Rattle.kd_state.specs.Setting.{Carries, Leads, cable_with}
use Rattle.kd_state.proofs.Carrying.{lug_moved, pin_made, turn_made, was_put, wheel_turn_made}
use Rattle.kd_state.proofs.FirstFault.{found-Ok}
use Rattle.kd_state.proofs.Prelude.{gets, position-Some}
use Rattle.kd_state.proofs.Slots.{has_letter-Decides, numbered_here, place_there, seated_in_box}
use Rattle.kd_state.proofs.Wheels.{place_within}
use Rattle.kd_pictures.specs.declared.numbers.TheConstants.{CABLES}
use Rattle.kd_pictures.specs.Board.{has_cables, is_plugged}
use Rattle.kd_page.specs.PageOrder.{IsRanked, settings_at, step_number}
use Rattle.kd_page.specs.declared.spots.Step.{Step}
use Rattle.kd_page.specs.declared.spots.Step.TheVariants.{PlugsIn, Turns}
use Rattle.kd_page.specs.Pins.{pin_spot}
use Rattle.kd_page.specs.Spots.{is_at, row_of, row_spot, step_spot}
use Rattle.kd_page.specs.Windows.{letter_in_slot}
use Rattle.kd_page.proofs.Groups.{group}
use Rattle.kd_page.proofs.PageOrders.{row_is}
use Rattle.kd_page.proofs.MarkedThings.{are_equal, keeps, pin_keeps, rotor_keeps, stays}

-- Numbers that are at least `more` are at least `from`.
pub ranked_from : {X : Type 0} (key : X → ℕ) (from more end : ℕ) (xs : List X) → from ≤ more → IsRanked key more end xs
    → IsRanked key from end xs
ranked_from key from more end [] below ranked = tt
ranked_from key from more end (x ∷ xs) below ranked = (omega (arith, below, ranked.0), ranked.1, ranked.2)

-- ---- A machine stays a rotor machine.

abbrev pub is_pin : Parts → Bool
is_pin (Rotor m) = false
is_pin (Pin m) = true

kind_step : (m next : Parts) (x : Setting) → Carries m x next → false ≡ false → is_pin next ≡ is_pin m
kind_step (Rotor m) next x carries none = rotor_keeps is_pin (λ m n. refl) m next x carries
kind_step (Pin m) next x carries none = pin_keeps is_pin (λ m n. refl) m next x carries

never : (xs : List Setting) → list_any (λ x. false) xs ≡ false
never [] = refl
never (x ∷ xs) = never xs

pub one_kind : (m n : Parts) (xs : List Setting) → Leads m xs n → is_pin n ≡ is_pin m
one_kind m n xs leads = stays is_pin (λ x. false) kind_step m n xs leads (never xs)

-- ---- Windows: after the first is set, the wheels stay in their slots.

pub slot_kept : (slot : ℕ) (m next : Parts) (x : Setting) → 6 ≤ step_number x → Carries m x next
    → machine_slot next slot ≡ machine_slot m slot
slot_kept slot (Rotor m) next (Turn other to) above carries =
    keeps (λ p. machine_slot p slot) _ (turn_made m other to next carries).1 refl
slot_kept slot (Pin m) next (Turn other to) above carries =
    keeps (λ p. machine_slot p slot) _ (wheel_turn_made m other to next carries).3 refl
slot_kept slot m next (Pull cable at) above carries = absurd (omega (arith, above))
slot_kept slot m next (Put cable at) above carries = absurd (omega (arith, above))
slot_kept slot m next (Seat other wheel) above carries = absurd (omega (arith, above))
slot_kept slot m next (SeatReflector reflector) above carries = absurd (omega (arith, above))
slot_kept slot m next (RingTo wheel to) above carries = absurd (omega (arith, above))
slot_kept slot m next (PinTo wheel at effective) above carries = absurd (omega (arith, above))
slot_kept slot m next (LugTo bar lug place) above carries = absurd (omega (arith, above))

pub slots_kept : (slot : ℕ) (m n : Parts) (xs : List Setting) → IsRanked step_number 6 7 xs → Leads m xs n
    → machine_slot n slot ≡ machine_slot m slot
slots_kept slot m n [] ranked leads = ap (λ p. machine_slot p slot) leads
slots_kept slot m n (x ∷ xs) ranked leads =
    slots_kept slot leads.0 n xs (ranked_from step_number 6 (step_number x) 7 xs ranked.0 ranked.2) leads.2
    ∙ slot_kept slot m leads.0 x ranked.0 leads.1

turn_holds : (m : RotorParts) (slot letter : ℕ) (next : Parts) → Carries (Rotor m) (Turn slot letter) next
    → (wheel : Wheel) × (numbered_item m.slots slot ≡ Some (Some wheel))
turn_holds m slot letter next e =
    let (seated, there, more) = found-Ok (numbered_item m.slots slot) SlotEmpty _ e in
    let (wheel, is, made) = found-Ok seated SlotEmpty _ more in
    (wheel, there ∙ ap Some is)

-- A wheel in a slot shows a letter.
shows : (n : RotorParts) → IsMachine (Rotor n) → (slot : ℕ) (wheel : Wheel)
    → numbered_item n.slots slot ≡ Some (Some wheel) → letter_in_slot (Rotor n) slot ≢ None
shows n is slot wheel holds none =
    let in_box = seated_in_box n.model n.slots slot wheel is.legal.seats.allowed holds in
    let within = place_within n.model wheel in_box in
    let count = is.legal.letters.count in
    absurd (grind (arith, common_steps, gets, holds, none, within, count))

-- A test that can't hold.
by_test : (test : Bool) (b : Bool) → test ≡ b → (b ≡ true → ⊥) → (test && true) ≡ false
by_test test true is never = absurd (never refl)
by_test test false is never = rw is refl

by_tests : (one two : Bool) → (one ≡ true → two ≡ true → ⊥) → (one && two) ≡ false
by_tests true true never = absurd (never refl refl)
by_tests true false never = refl
by_tests false two never = refl

-- A setting that turns no wheel, or that turns a wheel of another slot, has no box at the window.
not_at_window : (slot : ℕ) (n : RotorParts) → IsMachine (Rotor n) → letter_in_slot (Rotor n) slot ≡ None
    → (m next : Parts) (x : Setting) (xs : List Setting) → is_pin m ≡ false → Carries m x next
    → IsRanked step_number (step_number x) 7 xs → Leads next xs (Rotor n) → is_at (row_spot Turns slot) x ≡ false
not_at_window slot n is none (Pin m) next x xs kind carries ranked leads = absurd (cc)
not_at_window slot n is none (Rotor m) next (Turn other to) xs kind carries ranked leads =
    let held = turn_holds m other to next carries in
    let here = slots_kept other next (Rotor n) xs ranked leads
    ∙ slot_kept other (Rotor m) next (Turn other to) (omega arith) carries in
    let shown = shows n is other held.0 (here ∙ held.1) in
    by_test (nat_eq other slot) (nat_eq other slot) refl (λ same. shown (subst (λ s. letter_in_slot (Rotor n) s ≡ None) (sym (are_equal other slot same)) none))
not_at_window slot n is none (Rotor m) next (Pull cable at) xs kind carries ranked leads = refl
not_at_window slot n is none (Rotor m) next (Put cable at) xs kind carries ranked leads = refl
not_at_window slot n is none (Rotor m) next (Seat other wheel) xs kind carries ranked leads = refl
not_at_window slot n is none (Rotor m) next (SeatReflector reflector) xs kind carries ranked leads = refl
not_at_window slot n is none (Rotor m) next (RingTo wheel to) xs kind carries ranked leads = refl
not_at_window slot n is none (Rotor m) next (PinTo wheel at effective) xs kind carries ranked leads = refl
not_at_window slot n is none (Rotor m) next (LugTo bar lug place) xs kind carries ranked leads = refl

pub windows_there : (slot : ℕ) (n : RotorParts) → IsMachine (Rotor n) → letter_in_slot (Rotor n) slot ≡ None
    → (m : Parts) (from : ℕ) (xs : List Setting) → is_pin m ≡ false → IsRanked step_number from 7 xs
    → Leads m xs (Rotor n) → settings_at (row_spot Turns slot) xs ≡ []
windows_there slot n is none m from [] kind ranked leads = refl
windows_there slot n is none m from (x ∷ xs) kind ranked leads =
    let off = not_at_window slot n is none m leads.0 x xs kind leads.1 ranked.2 leads.2 in
    let next_kind = kind_step m leads.0 x leads.1 refl ∙ kind in
    let rest = windows_there slot n is none leads.0 (step_number x) xs next_kind ranked.2 leads.2 in
    subst (λ test. (if test then x ∷ settings_at (row_spot Turns slot) xs else settings_at (row_spot Turns slot) xs) ≡ [])
    (sym off) rest

-- ---- Plugs: if one is put in, a cable is plugged after.

split_ranked : {X : Type 0} (key : X → ℕ) (from end : ℕ) (x : X) (ys : List X) (b : Bool)
    → IsRanked key from end (if b then x ∷ ys else ys)
    → IsRanked key from end (if b then x ∷ [] else []) × IsRanked key from end ys
split_ranked key from end x ys true ranked = ((ranked.0, ranked.1, tt), ranked_from key from (key x) end ys ranked.0 ranked.2)
split_ranked key from end x ys false ranked = (tt, ranked)

abbrev HasRows : List Setting → Type 0
HasRows xs = IsRanked row_of 1 14 (settings_at (step_spot PlugsIn) xs)

split_rows : (x : Setting) (xs : List Setting) → HasRows (x ∷ xs) → HasRows (x ∷ []) × HasRows xs
split_rows x xs rows =
    split_ranked row_of 1 14 x (settings_at (step_spot PlugsIn) xs) (is_at (step_spot PlugsIn) x) rows

any_at : (p : ℕ → Bool) (xs : List ℕ) (place : ℕ) → place < length xs → p (get_or xs place 0) ≡ true
    → list_any p xs ≡ true
any_at p [] place within is = absurd (omega (arith, within))
any_at p (x ∷ xs) zero within is = grind (arith, is)
any_at p (x ∷ xs) (suc place) within is =
    let rest = any_at p xs place (omega (arith, within)) is in grind (arith, rest)

any_cable : (p : ℕ → Bool) (cable : ℕ) → 1 ≤ cable → cable < 14 → p cable ≡ true → list_any p CABLES ≡ true
any_cable p cable first last is =
    let at : get_or CABLES (cable - 1) 0 ≡ 1 + (cable - 1) =
    get_or-range_with_len 1 13 (cable - 1) 0 (omega (arith, first, last)) in
    let one : 1 + (cable - 1) ≡ cable = omega (arith, first) in
    any_at p CABLES (cable - 1) (omega (arith, first, last)) (rw (at, one) is)

has_first : (old : Option ℕ × Option ℕ) (letter : ℕ) → is_some (cable_with letter old).0 ≡ true
has_first (None, None) letter = grind arith
has_first (Some a, None) letter = grind arith
has_first (None, Some b) letter = grind arith
has_first (Some a, Some b) letter = grind arith

put_plugs : (m : RotorParts) (cable letter : ℕ) (next : Parts) → 1 ≤ cable → cable < 14
    → Carries (Rotor m) (Put cable letter) next → has_cables next CABLES ≡ true
put_plugs m cable letter next first last carries =
    let p = was_put m cable letter next carries in
    let here = numbered_here m.cables cable (cable_with letter p.old) p.there.first p.there.last in
    any_cable (is_plugged next) cable first last (keeps (λ q. is_plugged q cable) true p.made
    (rw here (has_first p.old letter)))

cabled_step : (m next : Parts) (x : Setting) → 3 ≤ step_number x → HasRows (x ∷ []) → Carries m x next
    → has_cables m CABLES ≡ true → has_cables next CABLES ≡ true
cabled_step (Rotor m) next (Put cable letter) above rows carries was =
    put_plugs m cable letter next rows.0 rows.1 carries
cabled_step (Rotor m) next (Turn slot to) above rows carries was =
    keeps (λ p. has_cables p CABLES) true (turn_made m slot to next carries).1 was
cabled_step (Pin m) next (Turn wheel to) above rows carries was =
    keeps (λ p. has_cables p CABLES) true (wheel_turn_made m wheel to next carries).3 was
cabled_step (Pin m) next (PinTo wheel at effective) above rows carries was =
    keeps (λ p. has_cables p CABLES) true (pin_made m wheel at effective next carries).1 was
cabled_step (Pin m) next (LugTo bar lug place) above rows carries was =
    keeps (λ p. has_cables p CABLES) true (lug_moved m bar lug place next carries).made was
cabled_step m next (Pull cable at) above rows carries was = absurd (omega (arith, above))
cabled_step m next (Seat other wheel) above rows carries was = absurd (omega (arith, above))
cabled_step m next (SeatReflector reflector) above rows carries was = absurd (omega (arith, above))
cabled_step m next (RingTo wheel to) above rows carries was = absurd (omega (arith, above))
cabled_step m next x above rows carries was = absurd (cc)

stay_cabled : (m n : Parts) (xs : List Setting) → IsRanked step_number 3 7 xs → HasRows xs → Leads m xs n
    → has_cables m CABLES ≡ true → has_cables n CABLES ≡ true
stay_cabled m n [] ranked rows leads was = ap (λ p. has_cables p CABLES) leads ∙ was
stay_cabled m n (x ∷ xs) ranked rows leads was =
    let split = split_rows x xs rows in
    stay_cabled leads.0 n xs (ranked_from step_number 3 (step_number x) 7 xs ranked.0 ranked.2) split.1 leads.2
    (cabled_step m leads.0 x ranked.0 split.0 leads.1 was)

no_put : (m next n : Parts) (x : Setting) (xs : List Setting) → has_cables n CABLES ≡ false
    → IsRanked step_number (step_number x) 7 xs → HasRows (x ∷ []) → HasRows xs → Carries m x next → Leads next xs n
    → is_at (step_spot PlugsIn) x ≡ false
no_put (Rotor m) next n (Put cable letter) xs none ranked row rows carries leads =
    let has = stay_cabled next n xs ranked rows leads (put_plugs m cable letter next row.0 row.1 carries) in
    absurd (grind (arith, has, none))
no_put (Pin m) next n (Put cable letter) xs none ranked row rows carries leads = absurd (cc)
no_put m next n (Pull cable at) xs none ranked row rows carries leads = refl
no_put m next n (Seat other wheel) xs none ranked row rows carries leads = refl
no_put m next n (SeatReflector reflector) xs none ranked row rows carries leads = refl
no_put m next n (RingTo wheel to) xs none ranked row rows carries leads = refl
no_put m next n (Turn slot to) xs none ranked row rows carries leads = refl
no_put m next n (PinTo wheel at effective) xs none ranked row rows carries leads = refl
no_put m next n (LugTo bar lug place) xs none ranked row rows carries leads = refl

pub plugs_there : (n m : Parts) (from : ℕ) (xs : List Setting) → has_cables n CABLES ≡ false
    → IsRanked step_number from 7 xs → HasRows xs → Leads m xs n → settings_at (step_spot PlugsIn) xs ≡ []
plugs_there n m from [] none ranked rows leads = refl
plugs_there n m from (x ∷ xs) none ranked rows leads =
    let split = split_rows x xs rows in
    let off = no_put m leads.0 n x xs none ranked.2 split.0 split.1 leads.1 leads.2 in
    let rest = plugs_there n leads.0 (step_number x) xs none ranked.2 split.1 leads.2 in
    subst (λ test. (if test then x ∷ settings_at (step_spot PlugsIn) xs else settings_at (step_spot PlugsIn) xs) ≡ [])
    (sym off) rest

-- ---- A Converter's bars and wheels are those that the order of a page allows.

none_outside : {X : Type 0} (key : X → ℕ) (from end row : ℕ) (xs : List X) → IsRanked key from end xs
    → (row < from) ⊎ (end ≤ row) → group key row xs ≡ []
none_outside key from end row [] ranked outside = refl
none_outside key from end row (x ∷ xs) ranked (inl below) =
    let rest = none_outside key (key x) end row xs ranked.2 (inl (omega (arith, below, ranked.0))) in
    grind (arith, rest, below, ranked.0)
none_outside key from end row (x ∷ xs) ranked (inr above) =
    let rest = none_outside key (key x) end row xs ranked.2 (inr above) in
    grind (arith, rest, above, ranked.1)

not_numbered : {X : Type 0} (xs : List X) (number : ℕ) → numbered_item xs number ≡ None
    → (number < 1) ⊎ (length xs + 1 ≤ number)
not_numbered xs zero none = inl (omega arith)
not_numbered xs (suc place) none = inr (grind (arith, common_steps, gets, none))

pub row_there : {X : Type 0} (step : Step) (items : List X) (row end : ℕ) (settings : List Setting)
    → end ≤ length items + 1 → IsRanked row_of 1 end (settings_at (step_spot step) settings)
    → numbered_item items row ≡ None → settings_at (row_spot step row) settings ≡ []
row_there step items row end settings enough ranked none =
    row_is step settings row ∙ none_outside row_of 1 end row (settings_at (step_spot step) settings) ranked
    (elim (not_numbered items row none) [ inl below ↦ inl below | inr above ↦ inr (omega (arith, above, enough)) ])

-- ---- Pins: a pin that is set is on its wheel.

pin_shows : (n : PinParts) → IsMachine (Pin n) → (wheel letter : ℕ) → has_letter (ring_of wheel) letter ≡ true
    → machine_pin (Pin n) wheel letter ≢ None
pin_shows n is wheel letter has none =
    let found = place_there (ring_of wheel) letter ((has_letter-Decides (ring_of wheel) letter).0 has) in
    let within = (position-Some (λ (l : ℕ). nat_eq l letter) (ring_of wheel) _ 0 found).0 in
    let pins = is.legal.pins wheel in
    absurd (grind (arith, common_steps, gets, found, within, pins, none))

not_at_pin : (wheel letter : ℕ) (n : PinParts) → IsMachine (Pin n) → machine_pin (Pin n) wheel letter ≡ None
    → (m next : Parts) (x : Setting) → Carries m x next → is_at (pin_spot wheel letter) x ≡ false
not_at_pin wheel letter n is none (Pin m) next (PinTo other at effective) carries =
    let has = (pin_made m other at effective next carries).0 in
    by_tests (nat_eq other wheel) (nat_eq at letter) (λ one two. pin_shows n is wheel letter
    (subst (λ w. has_letter (ring_of w) letter ≡ true) (are_equal other wheel one)
    (subst (λ l. has_letter (ring_of other) l ≡ true) (are_equal at letter two) has)) none)
not_at_pin wheel letter n is none (Rotor m) next (PinTo other at effective) carries = absurd (cc)
not_at_pin wheel letter n is none m next (Pull cable at) carries = refl
not_at_pin wheel letter n is none m next (Put cable at) carries = refl
not_at_pin wheel letter n is none m next (Seat slot seated) carries = refl
not_at_pin wheel letter n is none m next (SeatReflector reflector) carries = refl
not_at_pin wheel letter n is none m next (RingTo ring to) carries = refl
not_at_pin wheel letter n is none m next (Turn slot to) carries = refl
not_at_pin wheel letter n is none m next (LugTo bar lug place) carries = refl

pub pins_there : (wheel letter : ℕ) (n : PinParts) → IsMachine (Pin n) → machine_pin (Pin n) wheel letter ≡ None
    → (m end : Parts) (xs : List Setting) → Leads m xs end → settings_at (pin_spot wheel letter) xs ≡ []
pins_there wheel letter n is none m end [] leads = refl
pins_there wheel letter n is none m end (x ∷ xs) leads =
    let off = not_at_pin wheel letter n is none m leads.0 x leads.1 in
    let rest = pins_there wheel letter n is none leads.0 end xs leads.2 in
    subst (λ test.
    (if test then x ∷ settings_at (pin_spot wheel letter) xs else settings_at (pin_spot wheel letter) xs) ≡ [])
    (sym off) rest
