-- Settings carried out in turn: those for loose things lead to a machine on which these things are as on the day.
pub mod Counting
unfoldable pub use Counting.*
unfoldable use Rattle.kd_tables.specs.Rings.{ring_of}

-- Facts about the item `x` between the parts `front` and `back` of a list.
module _ {X : Type 0} where
  pub seam_get : (front : List X) (x : X) (back : List X) → slice_get (front ++ x ∷ back) (length front) ≡ Some x
  seam_get [] x back = refl
  seam_get (y ∷ front) x back = seam_get front x back

  -- A property of all items holds for each part.
  pub all_parts : (P : X → Type 0) (front : List X) (x : X) (back : List X) → AllByRecursion P (front ++ x ∷ back)
      → AllByRecursion P front × P x × AllByRecursion P back
  all_parts P [] x back h = (tt, h.0, h.1)
  all_parts P (y ∷ front) x back h = let rest = all_parts P front x back h.1 in ((h.0, rest.0), rest.1, rest.2)

-- If `f` differs for any two items, `f` of an item differs from `f` of each item before it.
AllPairs-before : {X Y : Type 0} (f : X → Y) (front : List X) (x : X) (back : List X)
    → AllPairs (λ w v. f w ≢ f v) (front ++ x ∷ back) → AllByRecursion (λ v. f x ≢ f v) front
AllPairs-before f [] x back apart = tt
AllPairs-before f (y ∷ front) x back apart =
    let away = apart zero (suc (length front)) x (omega arith) (omega (arith, length-append front (x ∷ back))) in
    let rest = all_pairs_remove (λ w v. f w ≢ f v) (y ∷ front ++ x ∷ back) zero (omega arith) apart in
    ((λ same. rw (get_or_at front x back x (length front) refl) at away (sym same)), AllPairs-before f front x _ rest)

pub seam_map : {X Y : Type 0} (f : X → Y) (xs front back : List X) (x : X) → xs ≡ front ++ x ∷ back
    → slice_get (map f xs) (length front) ≡ Some (f x)
seam_map f xs front back x e = rw (e, map-append) (rw length-map at (seam_get (map f front) (f x) (map f back)))

-- ---- settings carried out in turn
pub record Led (m : Parts) (xs : List Setting) (n : Parts) : Type 0 where
  pub leads : Leads m xs n

pub led_none : {m n : Parts} → n ≡ m → Led m [] n
led_none e = record { leads = e }

pub led_cons : {m k n : Parts} {x : Setting} {xs : List Setting} → Carries m x k → Led k xs n
    → Led m (x ∷ xs) n
led_cons {k = k} carries rest = record { leads = (k, carries, rest.leads) }

pub led_append : (xs ys : List Setting) {m k n : Parts} → Led m xs k → Led k ys n → Led m (xs ++ ys) n
led_append xs ys first second = record { leads = leads_join _ _ _ xs ys first.leads second.leads }

-- The setting for a thing leads from `m` to `n`; it is left out if the thing is right already (`so`).
pub led_unless : (so : Bool) (m n : Parts) (x : Setting) → (so ≡ true → n ≡ m) → (so ≡ false → Carries m x n)
    → Led m (setting_unless so x) n
led_unless true m n x same carries = led_none (same refl)
led_unless false m n x same carries = led_cons (carries refl) (led_none refl)

-- Things in turn, each with its settings. `state` gives the machine in which the things of the first list are set
-- already, and those of the second list aren't yet.
module _ {Z : Type 0} (state : List Z → List Z → Parts) (lines : ℕ → Z → List Setting) where
  abbrev pub LeadsOn : List Z → Z → List Z → Type 0
  LeadsOn front z back = Led (state front (z ∷ back)) (lines (suc (length front)) z) (state (front ++ z ∷ []) back)

  led_from : (front zs : List Z) (number : ℕ) → number ≡ suc (length front)
      → ((fs bs : List Z) (z : Z) → front ++ zs ≡ fs ++ z ∷ bs → LeadsOn fs z bs)
      → Led (state front zs) (lines_from lines number zs) (state (front ++ zs) [])
  led_from front [] number e each = rw append-nil (led_none refl)
  led_from front (z ∷ zs) number e each =
      let rest = led_from (front ++ z ∷ []) zs (number + 1) (omega (arith, length-append front (z ∷ [])))
      (λ fs bs v d. each fs bs v (sym (append_assoc front (z ∷ []) zs) ∙ d)) in
      grind (arith, append_assoc, led_append)

  pub led_in_any_order : (zs : List Z) → ((front back : List Z) (z : Z) → zs ≡ front ++ z ∷ back → LeadsOn front z back)
      → Led (state [] zs) (lines_from lines 1 zs) (state zs [])
  led_in_any_order zs each = led_from [] zs 1 refl each

-- Things side by side. The settings of a thing change this thing alone, from `before` to `after`; `put` gives the
-- machine that has these things.
module _ {Z A : Type 0} (put : List A → Parts) (before after : Z → A) (lines : ℕ → Z → List Setting) where
  abbrev pub LeadsAt : List A → Z → List A → Type 0
  LeadsAt front z back =
      Led (put (front ++ before z ∷ back)) (lines (suc (length front)) z) (put (front ++ after z ∷ back))

  pub led_in_order : (zs : List Z) {first last : List A} → map before zs ≡ first → map after zs ≡ last
      → ((front back : List Z) (z : Z) → zs ≡ front ++ z ∷ back → LeadsAt (map after front) z (map before back))
      → Led (put first) (lines_from lines 1 zs) (put last)
  led_in_order zs begins ends each =
      rw (← begins, ← ends) (simp append-nil at (led_in_any_order
      (λ front back. put (map after front ++ map before back)) lines zs
      (λ front back z e. simp (map-append, append_assoc) (rw length-map at (each front back z e)))))

-- ---- SEAT, REFLECTOR, RING and TURN of a rotor machine
-- The box has no wheel twice.
places_in_box : (model : Model) → map (place_in_box model) (box_of model) ≡ range_with_len 0 (length (box_of model))
places_in_box model = grind arith

place_is : (model : Model) (k : ℕ) (d : Wheel) → k < length (box_of model)
    → place_in_box model (get_or (box_of model) k d) ≡ k
place_is model k d lt = grind (arith, get_or-map, places_in_box, get_or-range_with_len)

-- SEAT: because the day's wheels differ, a slot that is right already is never emptied.
kept_seat : (wheel other : Wheel) (seated : Option Wheel) → wheel ≢ other
    → option_map_or (same_wheel other) (seat_without wheel seated) false ≡ option_map_or (same_wheel other) seated false
kept_seat wheel other seated e = grind (arith, cond_both, same_wheel-Decides)

kept_seats : (so : Bool) (wheel : Wheel) (slots : List (Option Wheel)) (wheels : List SheetWheel) (number : ℕ)
    → AllByRecursion (λ w. wheel ≢ w.wheel) wheels
    → lines_from slot_seat_line number (zip (cond so slots (map (seat_without wheel) slots)) wheels)
    ≡ lines_from slot_seat_line number (zip slots wheels)
kept_seats true wheel slots wheels number h = refl
kept_seats false wheel [] wheels number h = refl
kept_seats false wheel slots [] number h = grind arith
kept_seats false wheel (now ∷ slots) (w ∷ wheels) number h =
    rw (kept_seat wheel w.wheel now h.0, kept_seats false wheel slots wheels (number + 1) h.1) refl

module _ (m : RotorParts) where
  abbrev pub with_slots : List (Option Wheel) → Parts
  with_slots slots = Rotor (record m { slots = slots })

  -- The wheel of `w` is in none of `slots`.
  abbrev IsAbsent : List (Option Wheel) → SheetWheel → Type 0
  IsAbsent slots w = map (seat_without w.wheel) slots ≡ slots

  -- `slots`, right of a slot that holds `now`, after the wheel of `w` is seated in that slot: they lose this wheel,
  -- unless the slot held it already
  abbrev behind : Option Wheel → SheetWheel → List (Option Wheel) → List (Option Wheel)
  behind now w slots = cond (option_map_or (same_wheel w.wheel) now false) slots (map (seat_without w.wheel) slots)

  seat_led : (front slots : List (Option Wheel)) (now : Option Wheel) (w : SheetWheel) (number : ℕ)
      → number ≡ suc (length front) → Contains (wheels_for m.model number) w.wheel → IsAbsent front w
      → Led (with_slots (front ++ now ∷ slots)) (slot_seat_line number (now, w))
      (with_slots (front ++ Some w.wheel ∷ behind now w slots))
  seat_led front slots now w number e allowed absent =
      led_unless (option_map_or (same_wheel w.wheel) now false) _ _ _
      (λ so. grind (arith, common_steps, so, same_wheel-Decides))
      (λ so. grind (arith, common_steps, so, set_at, allowed))

  seats_led : (front slots : List (Option Wheel)) (wheels : List SheetWheel) (number : ℕ) → number ≡ suc (length front)
      → length slots ≡ length wheels
      → ((k n : ℕ) (wheel : Wheel) → n ≡ k + number → IsSeatedAt (seats_of_wheels wheels) k wheel
      → Contains (wheels_for m.model n) wheel)
      → All (IsAbsent front) wheels → AllPairs (λ (w v : SheetWheel). w.wheel ≢ v.wheel) wheels
      → Led (with_slots (front ++ slots)) (lines_from slot_seat_line number (zip slots wheels))
      (with_slots (front ++ seats_of_wheels wheels))
  seats_led front [] [] number e size allowed absent apart = led_none refl
  seats_led front (now ∷ slots) (w ∷ wheels) number e size allowed absent apart =
      let others = recursion_from_All (λ (v : SheetWheel). w.wheel ≢ v.wheel) wheels
      (λ k d lt. apart zero (suc k) d (omega arith) (omega arith)) in
      let rest = seats_led (front ++ Some w.wheel ∷ []) (behind now w slots) wheels (number + 1)
      (omega (arith, length-append front (Some w.wheel ∷ []))) (grind (arith, length-map))
      (λ k n wheel e at. allowed (suc k) n wheel (omega arith) at)
      (λ k d lt. let differ = apart zero (suc k) d (omega arith) (omega arith) in
      grind (arith, map-append, absent (suc k) d (omega arith), differ, same_wheel-Decides))
      (all_pairs_remove (λ (w v : SheetWheel). w.wheel ≢ v.wheel) (w ∷ wheels) zero (omega arith) apart) in
      let here = seat_led front slots now w number e (allowed zero number w.wheel (omega arith) refl)
      (absent zero w (omega arith)) in
      led_append (slot_seat_line number (now, w)) (lines_from slot_seat_line (number + 1) (zip slots wheels)) here
      (rw (kept_seats (option_map_or (same_wheel w.wheel) now false) w.wheel slots wheels (number + 1) others)
      at (simp append_assoc at rest))
  seats_led front _ _ number e size allowed absent apart = absurd (omega arith)

  -- REFLECTOR leads to a machine with the day's reflector.
  reflector_led : (slots : List (Option Wheel)) (reflector : Reflector) → Contains (reflectors_of m.model) reflector
      → Led (with_slots slots) (setting_unless (same_reflector m.reflector reflector) (SeatReflector reflector))
      (Rotor (record m { slots = slots; reflector = reflector }))
  reflector_led slots reflector h = grind (arith, has_reflector-Decides, led_unless, same_reflector-Decides)

set_same : (xs : List ℕ) (p v : ℕ) → slice_get xs p ≡ Some v → set xs p v ≡ xs
set_same xs p v e = rw (get_or_from_slice_get xs p v 0 e) at (set-get_or xs p 0)

-- A search for `wheel` tests `v` first: `same` is the answer, and `later` is what it finds behind `v`.
first_or_later : (same : Bool) (wheel : Wheel) (v w : SheetWheel) (later : Option SheetWheel)
    → same_wheel wheel v.wheel ≡ same → (later ≡ Some w → wheel ≡ w.wheel) → cond same (Some v) later ≡ Some w
    → wheel ≡ w.wheel
first_or_later true wheel v w later same rest e =
    (same_wheel-Decides wheel v.wheel).0 same ∙ ap (λ (x : SheetWheel). x.wheel) (same_Some v w e)
first_or_later false wheel v w later same rest e = rest e

is_the_one : (wheel : Wheel) (wheels : List SheetWheel) (w : SheetWheel)
    → find (λ (v : SheetWheel). same_wheel wheel v.wheel) wheels ≡ Some w → wheel ≡ w.wheel
is_the_one wheel [] w e = absurd cc
is_the_one wheel (v ∷ wheels) w e =
    first_or_later (same_wheel wheel v.wheel) wheel v w _ refl (is_the_one wheel wheels w) e

-- all settings for the loose things of a rotor machine, carried out in turn
module _ (m : RotorParts) (s : RotorDay) (machine : IsMachine (Rotor m)) (legal : IsLegalRotorDay s)
    (same : m.model ≡ s.model) where
  are_seated : AreLegalSeats m.model (seats_of_wheels s.wheels)
  are_seated = subst (λ model. AreLegalSeats model (seats_of_wheels s.wheels)) (sym same) legal.wheels

  abbrev place : SheetWheel → ℕ
  place w = place_in_box m.model w.wheel

  places_differ : AllPairs (λ (w v : SheetWheel). place w ≢ place v) s.wheels
  places_differ = days_wheels_have_their_places m.model s.wheels are_seated

  seats_lead : Led (Rotor m) (lines_from slot_seat_line 1 (zip m.slots s.wheels))
      (with_slots m (seats_of_wheels s.wheels))
  seats_lead =
      seats_led m [] m.slots s.wheels 1 refl (grind (arith, length-map))
      (λ k n wheel e at. rw e (are_seated.allowed k wheel at))
      (λ k d lt. refl) (λ i j d before lt same. places_differ i j d before lt (ap (place_in_box m.model) same))

  -- RING: the day's wheel that is this wheel of the box, if there is one; and the rings, in the order of the box
  abbrev the_one : Wheel → Option SheetWheel
  the_one wheel = find (λ (w : SheetWheel). same_wheel wheel w.wheel) s.wheels

  one_is : (k : ℕ) (d : SheetWheel) → k < length s.wheels
      → the_one (get_or s.wheels k d).wheel ≡ Some (get_or s.wheels k d)
  one_is k d lt =
      let wheel = (get_or s.wheels k d).wheel in
      found_at (find (λ v. same_wheel wheel v.wheel)) (λ v. same_wheel wheel v.wheel) Some None refl
      (λ v vs. refl) s.wheels k d lt (λ i before. same_wheel_differs wheel (get_or s.wheels i d).wheel
      (λ same. places_differ i k d before lt (ap (place_in_box m.model) (sym same)))) (same_wheel_self wheel)

  abbrev ring_now : Wheel → ℕ
  ring_now wheel = get_or m.rings (place_in_box m.model wheel) 0

  abbrev ring_then : Wheel → ℕ
  ring_then wheel = option_map_or (λ w. w.ring) (the_one wheel) (ring_now wheel)

  rings_now : map ring_now (box_of m.model) ≡ m.rings
  rings_now =
      sym (map-map (λ k. get_or m.rings k 0) (place_in_box m.model) (box_of m.model))
      ∙ ap (map (λ k. get_or m.rings k 0)) (places_in_box m.model)
      ∙ sym (fill_by_all (λ k. get_or m.rings k 0) m.rings _ 0 machine.legal.rings.count (λ k lt. refl))

  abbrev ringed : List ℕ → RotorParts
  ringed rings = record m { slots = seats_of_wheels s.wheels; reflector = s.reflector; rings = rings }

  abbrev with_rings : List ℕ → Parts
  with_rings rings = Rotor (ringed rings)

  ring_led : (front back : List ℕ) (wheel : Wheel) (one : Option SheetWheel) → the_one wheel ≡ one
      → slice_get (box_of m.model) (length front) ≡ Some wheel
      → Led (with_rings (front ++ ring_now wheel ∷ back)) (wheel_ring_line (Rotor m) s.wheels wheel)
      (with_rings (front ++ ring_then wheel ∷ back))
  ring_led front back wheel None e here = rw e (led_none refl)
  ring_led front back wheel (Some w) e here =
      let lt = slice_get_within (box_of m.model) (length front) wheel here in
      let is = get_or_from_slice_get (box_of m.model) (length front) wheel wheel here in
      let same = is_the_one wheel s.wheels w e in
      let placed = rw (is, same) at (place_is m.model (length front) wheel lt) in
      let at = slice_get-get_or m.rings (length front) 0 (omega (arith, machine.legal.rings.count)) in
      let has : list_any (same_wheel w.wheel) (box_of m.model) ≡ true =
      (has_wheel-Decides (box_of m.model) w.wheel).1 (rw (← same) (length front, lt, is)) in
      rw (e, same, placed, at) (grind (arith, led_unless, set_at, eqb-true, has, placed))

  rings_lead : Led (with_rings m.rings) (flat_map (wheel_ring_line (Rotor m) s.wheels) (box_of m.model))
      (with_rings (map ring_then (box_of m.model)))
  rings_lead =
      rw (lines_of_each (wheel_ring_line (Rotor m) s.wheels) (box_of m.model) 1)
      (led_in_order with_rings ring_now ring_then (λ n wheel. wheel_ring_line (Rotor m) s.wheels wheel)
      (box_of m.model) rings_now refl
      (λ fs bs wheel e. ring_led _ _ wheel (the_one wheel) refl (rw (length-map, e) (seam_get fs wheel bs))))

  -- TURN: the machine after SEAT, REFLECTOR and RING, with these letters.
  abbrev turned : List ℕ → RotorParts
  turned letters = record (ringed (map ring_then (box_of m.model))) { letters = letters }

  abbrev turn : List ℕ → SheetWheel → List ℕ
  turn letters w = set letters (place w) w.letter

  kept : (letters : List ℕ) (ws : List SheetWheel) (p : ℕ) → AllByRecursion (λ w. p ≢ place w) ws
      → slice_get (fold turn letters ws) p ≡ slice_get letters p
  kept letters [] p h = refl
  kept letters (w ∷ ws) p h = kept (turn letters w) ws p h.1 ∙ set_other letters (place w) p w.letter h.0

  is_set : (letters : List ℕ) (ws : List SheetWheel) (k : ℕ) (d : SheetWheel) → AllPairs (λ w v. place w ≢ place v) ws
      → k < length ws → let w = get_or ws k d in
      place w < length letters → slice_get (fold turn letters ws) (place w) ≡ Some w.letter
  is_set letters [] k d apart lt within = absurd (omega arith)
  is_set letters (w ∷ ws) zero d apart lt within =
      let others =
      recursion_from_All (λ v. place w ≢ place v) ws (λ k d lt. apart zero (suc k) d (omega arith) (omega arith)) in
      kept (turn letters w) ws (place w) others ∙ set_here letters (place w) w.letter within
  is_set letters (w ∷ ws) (suc k) d apart lt within =
      is_set (turn letters w) ws k d (all_pairs_remove (λ w v. place w ≢ place v) (w ∷ ws) zero (omega arith) apart)
      (omega arith) (rw length-set within)

  abbrev pub turned_all : RotorParts
  turned_all = turned (fold turn m.letters s.wheels)

  turns_lead : Led (Rotor (turned m.letters)) (lines_from (slot_turn_line (Rotor m)) 1 s.wheels) (Rotor turned_all)
  turns_lead =
      led_in_any_order (λ front back. Rotor (turned (fold turn m.letters front))) (slot_turn_line (Rotor m)) s.wheels
      (λ front back w e.
      let here = seam_map (λ (v : SheetWheel). Some v.wheel) s.wheels front back w e in
      let apart = subst (AllPairs (λ w v. place w ≢ place v)) e places_differ in
      let left = kept m.letters front (place w) (AllPairs-before place front w back apart) in
      rw fold_push (grind (arith, led_unless, here, left, set_same, eqb-true)))

  pub rotors_led : Led (Rotor m) (loose_lines (Rotor m) (Rotor s)) (Rotor turned_all)
  rotors_led =
      let reflector = reflector_led m (seats_of_wheels s.wheels) s.reflector
      (subst (λ model. Contains (reflectors_of model) s.reflector) (sym same) legal.reflector) in
      led_append _ _ (led_append _ _ (led_append _ _ seats_lead reflector) rings_lead) turns_lead

  -- After all these settings, each of the day's wheels has the day's ring and the day's letter.
  pub shown : (k : ℕ) (d : SheetWheel) → k < length s.wheels → let w = get_or s.wheels k d in
      (ring_at turned_all w.wheel ≡ Some w.ring) × (slice_get turned_all.letters (place w) ≡ Some w.letter)
  shown k d lt =
      let w = get_or s.wheels k d in
      let there = in_box m.model s.wheels are_seated k d lt in
      let within = place_within m.model w.wheel there in
      let letter =
      is_set m.letters s.wheels k d places_differ lt (omega (arith, within, machine.legal.letters.count)) in
      (grind (arith, slice_get-map, slice_get-get_or, place_is, one_is k d lt, there), letter)

-- ---- PIN and TURN of a Converter M-209: wheel by wheel, and on each wheel letter by letter
has_place : (number k letter : ℕ) → slice_get (ring_of number) k ≡ Some letter
    → place_on (ring_of number) letter ≡ Some k
has_place number k letter e =
    let many = length (ring_of number) in
    let lt = slice_get_within (ring_of number) k letter e in
    let is = slice_get-get_or (range_with_len 0 many) k 0 (omega (arith, length-range_with_len 0 many)) in
    let at = ap (λ (xs : List (Option ℕ)). slice_get xs k) (letters_have_places number) in
    grind (arith, slice_get-map, get_or-range_with_len, is, at)

pins_of_set : (lists : List (List Bool)) → length lists ≡ 6 → pins_of (pin_set lists) ≡ lists
pins_of_set lists e = grind (arith, common_steps)

second_map : {A B C : Type 0} (f : B → C) (xs : List A) (ys : List B) → length ys ≡ length xs
    → map (λ (z : A × B). f z.1) (zip xs ys) ≡ map f ys
second_map f xs ys e = sym (map-map f (λ z. z.1) (zip xs ys)) ∙ ap (map f) (seconds-zip xs ys e)

-- a letter of a wheel, with its pin in the machine and on the day; and all pins of a wheel, in the machine and on the
-- day
abbrev Cell : Type 0
Cell = ℕ × (Bool × Bool)

abbrev TwoPins : Type 0
TwoPins = List Bool × List Bool

module _ (m : PinParts) where
  abbrev with_pins : List (List Bool) → Parts
  with_pins lists = Pin (record m { pins = pin_set lists })

  module _ (front back : List (List Bool)) (six : length front + length back ≡ 5) where
    abbrev with_wheel : List Bool → Parts
    with_wheel pins = with_pins (front ++ pins ∷ back)

    abbrev number : ℕ
    number = suc (length front)

    pin_made : (done rest : List Bool) (now effective : Bool) (letter : ℕ)
        → place_on (ring_of number) letter ≡ Some (length done)
        → with_pin (pin_set (front ++ (done ++ now ∷ rest) ∷ back)) number letter effective
        ≡ pin_set (front ++ (done ++ effective ∷ rest) ∷ back)
    pin_made done rest now effective letter placed =
        let pins = done ++ now ∷ rest in
        let lists = pins_of_set (front ++ pins ∷ back) (omega (arith, length-append front (pins ∷ back))) in
        rw (lists, seam_get front pins back, placed, set_at done now rest effective (length done) refl)
        (ap pin_set (set_at front pins back (done ++ effective ∷ rest) _ (omega arith)))

    one_pin : (done rest : List Bool) (w : Cell) → place_on (ring_of number) w.0 ≡ Some (length done)
        → Led (with_wheel (done ++ w.1.0 ∷ rest)) (pin_line number w) (with_wheel (done ++ w.1.1 ∷ rest))
    one_pin done rest w placed =
        let has : has_letter (ring_of number) w.0 ≡ true =
        sym (is_some-place_on (ring_of number) w.0) ∙ ap is_some placed in
        grind (arith, led_unless, pin_made done rest w.1.0 w.1.1 w.0 placed)

    wheel_led : (now day : List Bool) → length now ≡ length (ring_of number) → length day ≡ length (ring_of number)
        → Led (with_wheel now) (wheel_pin_lines number (now, day)) (with_wheel day)
    wheel_led now day e d =
        let ring = ring_of number in
        let cells = zip ring (zip now day) in
        let size : length (zip now day) ≡ length ring = omega (arith, length-zip now day) in
        let before = second_map (λ (p : Bool × Bool). p.0) ring (zip now day) size ∙ firsts-zip now day (d ∙ sym e) in
        let after = second_map (λ (p : Bool × Bool). p.1) ring (zip now day) size ∙ seconds-zip now day (d ∙ sym e) in
        rw (lines_of_each (pin_line number) cells 1)
        (led_in_order with_wheel (λ (w : Cell). w.1.0) (λ w. w.1.1) (λ n w. pin_line number w) cells before after
        (λ fs bs w is.
        let at = rw (firsts-zip ring (zip now day) size) at (seam_map (λ (w : Cell). w.0) cells fs bs w is) in
        one_pin _ _ w (rw length-map (has_place number (length fs) w.0 at))))

  pins_lead : (day : PinSet) → HasAllPins m.pins → HasAllPins day
      → Led (Pin m) (lines_from wheel_pin_lines 1 (zip (pins_of m.pins) (pins_of day))) (Pin (record m { pins = day }))
  pins_lead day has due =
      let wheels = zip (pins_of m.pins) (pins_of day) in
      led_in_order with_pins (λ (z : TwoPins). z.0) (λ z. z.1)
      wheel_pin_lines wheels refl refl (λ fs bs z e.
      let now = ap (λ found. unwrap_or found []) (seam_map (λ (z : TwoPins). z.0) wheels fs bs z e) in
      let wanted = ap (λ found. unwrap_or found []) (seam_map (λ (z : TwoPins). z.1) wheels fs bs z e) in
      let six : length fs + length bs ≡ 5 = omega (arith, ap length e, length-append fs (z ∷ bs)) in
      wheel_led (map (λ (z : TwoPins). z.1) fs) (map (λ (z : TwoPins). z.0) bs) (simp length-map six) z.0 z.1
      (rw (length-map, ← now) (has (suc (length fs)))) (rw (length-map, ← wanted) (due (suc (length fs)))))

  -- TURN: the machine with these letters shown on its wheels.
  abbrev with_shown : List ℕ → Parts
  with_shown letters = Pin (record m { letters = letters })

  turn_led : (front back : List ℕ) (z : ℕ × ℕ) → Contains (ring_of (suc (length front))) z.1
      → Led (with_shown (front ++ z.0 ∷ back)) (pin_wheel_turn_line (suc (length front)) z)
      (with_shown (front ++ z.1 ∷ back))
  turn_led front back z on = grind (arith, eqb-true, has_letter-Decides, led_unless, seam_get, set_at)

  pin_turns_lead : (window : List ℕ) → length m.letters ≡ 6 → AreOnWheels window
      → Led (with_shown m.letters) (lines_from pin_wheel_turn_line 1 (zip m.letters window)) (with_shown window)
  pin_turns_lead window size on =
      let zs = zip m.letters window in
      let due = seconds-zip m.letters window (on.count ∙ sym size) in
      let now = firsts-zip m.letters window (on.count ∙ sym size) in
      led_in_order with_shown (λ (z : ℕ × ℕ). z.0) (λ z. z.1) pin_wheel_turn_line zs now due (λ fs bs z e.
      let at = rw due at (seam_map (λ (z : ℕ × ℕ). z.1) zs fs bs z e) in
      turn_led _ _ z (rw length-map (on.each (suc (length fs)) z.1 at)))

pub pins_led : (m : PinParts) (s : PinDay) → IsMachine (Pin m) → IsLegalPinDay s
    → Led (Pin m) (loose_lines (Pin m) (Pin s)) (Pin (record m { pins = s.pins; letters = s.window }))
pins_led m s machine legal =
    let turns = pin_turns_lead (record m { pins = s.pins }) s.window machine.legal.letters.count legal.window in
    led_append _ _ (pins_lead m s.pins machine.legal.pins legal.pins) turns
