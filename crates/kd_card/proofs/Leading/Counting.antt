-- How many settings there are for loose things, and how many of all settings are priced.
pub use Rattle.kd_card.{proofs.Months.Shortest.Falling.HaveTheirPlaces, specs.Proving.{is_priced_setting, priced_count}}
pub use Rattle.kd_card.specs.{Laws.LooseThingsAreCounted, Loose.{pin_wheel_turn_line, setting_unless, slot_turn_line}}
pub use Rattle.kd_card.specs.Loose.{lines_from, loose_lines, pin_line, slot_seat_line, wheel_pin_lines, wheel_ring_line}
pub use Rattle.std.proofs.Common.{AllPairs, get_or, length, List, nat_eq, refl, set, slice_get, suc, zero, ◌&&◌, ◌≤◌}
pub use Rattle.std.proofs.Common.{[], append_assoc, false, fold, is_some, map, None, subst, sym, zip, ◌+◌, ◌∙◌, ◌∷◌}
pub use Rattle.std.proofs.Common.{ap, arith, Bool, cond, count_by, find, length-append, Option, Some, ℕ, ◌++◌, ◌<◌, ◌≢◌}
pub use Rattle.std.proofs.{Common.{Contains, flat_map, not, true, unwrap_or, ◌≡◌}, lemmas.Bool.{cond_both, eqb-true}}
pub use Rattle.std.proofs.lemmas.Option.{get_or_from_slice_get, same_Some, slice_get-get_or, slice_get-map}
pub use Rattle.std.proofs.lemmas.Option.{slice_get_within}
pub use Rattle.std.proofs.lemmas.List.{length-map, map-append, set_at, Folds.fold-map, Quantifiers.all_pairs_remove}
pub use Rattle.std.proofs.lemmas.List.{get_or_at, set-get_or, Sums.{fold_push, sum_by-append, sum_by-cons, sum_by-le}}
pub use Rattle.std.proofs.lemmas.List.{append-nil, length-set, Elements.recursion_from_All, Recursion.found_at}
pub use Rattle.std.proofs.lemmas.List.{get_or-map, FromFn.{fill_by_all, get_or-range_with_len, length-range_with_len}}
pub use Rattle.std.proofs.lemmas.{Grind.common_steps, Simd.map-map, Slice.Zip.{firsts-zip, length-zip, seconds-zip}}
pub use Rattle.std.specs.{List.{All, AllByRecursion, list_any, range_with_len, sum_by}, Option.option_map_or}
pub use Rattle.kd_state.proofs.Slots.{has_letter-Decides, is_some-place_on, set_here, set_other}
pub use Rattle.kd_state.proofs.{SortedAlike.count_by-cons, Slots.letters_have_places, Carrying.leads_join}
pub use Rattle.kd_state.proofs.{CostTable.sums_add, Wheels.{days_wheels_have_their_places, same_wheel_self}}
pub use Rattle.kd_state.proofs.Wheels.{has_reflector-Decides, place_within, same_reflector-Decides, same_wheel_differs}
pub use Rattle.kd_state.{proofs.Wheels.{allowed_in_box, has_wheel-Decides, same_wheel-Decides}, specs.Pins.wheel_pins}
pub use Rattle.kd_state.specs.{Pins.{pin_set, with_pin}, SameParts.{place_in_box, same_reflector, same_wheel}}
pub use Rattle.kd_state.specs.declared.setting.Setting.{Setting, TheVariants.SeatReflector}
pub use Rattle.kd_state.specs.declared.machine.{parts.Parts.{Parts, TheVariants.Pin}, pin_parts.PinParts.PinParts}
pub use Rattle.kd_state.specs.declared.machine.{parts.Parts.TheVariants.Rotor, rotor_parts.RotorParts.RotorParts}
pub use Rattle.kd_state.specs.{Costs.{exactly_one, loose_count}, declared.sheet_day.rotor_entry.SheetWheel.SheetWheel}
pub use Rattle.kd_state.specs.Machine.{AreLegalSeats, AreOnWheels, HasAllPins, IsMachine, IsSeatedAt, model_of, ring_at}
pub use Rattle.kd_state.specs.SheetDay.{Day, day_model, IsLegalDay, IsLegalRotorDay, PinDay, seats_of_wheels}
pub use Rattle.kd_state.specs.{Setting.Carries, SheetDay.{IsLegalPinDay, Pin, Rotor, RotorDay}}
pub use Rattle.{kd_state.specs.Setting.{Leads, seat_without}, kd_tables.specs.Pairs.has_letter}
pub use Rattle.{kd_pins.specs.{declared.pin_set.PinSet.PinSet, PinWheels.pins_of}, kd_tables.specs.Rings.ring_of}
pub use Rattle.kd_tables.specs.{declared.model.Model.Model, Rings.place_on, Tables.{box_of, reflectors_of, wheels_for}}
pub use Rattle.kd_tables.specs.declared.{reflector.Reflector.Reflector, wheel.Wheel.Wheel}

-- `lines` are `loose` settings for loose things and `cost` priced ones, which change a cable or a bar.
pub record AreCounted (lines : List Setting) (loose cost : ℕ) : Type 0 where
  pub count : length lines ≡ loose + cost
  pub priced : priced_count lines ≡ cost

pub counted-append : {a b p q : ℕ} (xs ys : List Setting) → AreCounted xs a p → AreCounted ys b q
    → AreCounted (xs ++ ys) (a + b) (p + q)
counted-append xs ys h k = grind (arith, length-append, sum_by-append)

-- the setting for a thing counts as one if the thing is loose, and is left out otherwise
counted_loose : (so : Bool) (x : Setting) → is_priced_setting x ≡ false
    → AreCounted (setting_unless so x) (cond (not so) 1 0) 0
counted_loose so x e = grind arith

-- the settings for all items of a numbered list are as many as those for each item, added up
pub counted_each : {Z : Type 0} (lines : ℕ → Z → List Setting) (f g : Z → ℕ)
    → ((number : ℕ) (z : Z) → AreCounted (lines number z) (f z) (g z))
    → (zs : List Z) (number : ℕ) → AreCounted (lines_from lines number zs) (sum_by f zs) (sum_by g zs)
counted_each lines f g h [] number = record { count = refl; priced = refl }
counted_each lines f g h (z ∷ zs) number =
    rw (sum_by-cons f, sum_by-cons g) (counted-append _ _ (h number z) (counted_each lines f g h zs (number + 1)))

pub sum_none : {Z : Type 0} (zs : List Z) → sum_by (λ z. 0) zs ≡ 0
sum_none zs = omega (arith, sum_by-le (λ z. 0) 0 zs (λ k d lt. omega arith))

-- A sum over the second items of pairs is the sum over the second list, if the lists are equally long.
pub beside_each : {A B : Type 0} (f : B → ℕ) (xs : List A) (ys : List B) → length ys ≡ length xs
    → sum_by (λ (z : A × B). f z.1) (zip xs ys) ≡ sum_by f ys
beside_each f xs ys same = sym (fold-map _ (λ z. z.1) 0 (zip xs ys)) ∙ ap (sum_by f) (seconds-zip xs ys same)

-- For settings that don't depend on an item's number, `flat_map` gives the same list as `lines_from`.
pub lines_of_each : {X : Type 0} (f : X → List Setting) (xs : List X) (number : ℕ)
    → flat_map f xs ≡ lines_from (λ n x. f x) number xs
lines_of_each f [] number = refl
lines_of_each f (x ∷ xs) number = ap (λ lines. f x ++ lines) (lines_of_each f xs (number + 1))

-- ---- RING: each of the day's wheels is found in the box once, under its own name
pub in_box : (model : Model) (wheels : List SheetWheel) → AreLegalSeats model (seats_of_wheels wheels)
    → All (λ w. Contains (box_of model) w.wheel) wheels
in_box model wheels h k d lt =
    allowed_in_box model (k + 1) _ (h.allowed k _ (grind (arith, slice_get-map, slice_get-get_or)))

once_in_box : (model : Model) (wheel : Wheel) (b : Bool) → list_any (same_wheel wheel) (box_of model) ≡ true
    → count_by (λ x. same_wheel x wheel && b) (box_of model) ≡ cond b 1 0
once_in_box model wheel b e = grind arith

-- whether `wheel` is among `wheels`, and its first entry there passes the test
abbrev finds_wheel : (SheetWheel → Bool) → List SheetWheel → Wheel → Bool
finds_wheel test wheels wheel = option_map_or test (find (λ w. same_wheel wheel w.wheel) wheels) false

none_found : (test : SheetWheel → Bool) (wheel : Wheel) (wheels : List SheetWheel)
    → AllByRecursion (λ w. wheel ≢ w.wheel) wheels → finds_wheel test wheels wheel ≡ false
none_found test wheel [] h = refl
none_found test wheel (w ∷ wheels) h =
    grind (arith, same_wheel_differs wheel w.wheel h.0, none_found test wheel wheels h.1)

finds_first : (test : SheetWheel → Bool) (w : SheetWheel) (wheels : List SheetWheel) (b : Wheel)
    → finds_wheel test wheels w.wheel ≡ false
    → cond {A = ℕ} (same_wheel b w.wheel && test w) 1 0 + cond (finds_wheel test wheels b) 1 0
    ≡ cond (finds_wheel test (w ∷ wheels) b) 1 0
finds_first test w wheels b none = grind (arith, same_wheel-Decides b w.wheel)

found_once : (test : SheetWheel → Bool) (model : Model) (wheels : List SheetWheel)
    → AllByRecursion (λ w. list_any (same_wheel w.wheel) (box_of model) ≡ true) wheels → HaveTheirPlaces model wheels
    → count_by (finds_wheel test wheels) (box_of model) ≡ count_by test wheels
found_once test model [] there apart = sum_none (box_of model)
found_once test model (w ∷ wheels) there apart =
    let others = recursion_from_All (λ (v : SheetWheel). w.wheel ≢ v.wheel) wheels
    (λ k d lt same. apart zero (suc k) d (omega arith) (omega arith) (ap (place_in_box model) same)) in
    let none = none_found test w.wheel wheels others in
    let rest = found_once test model wheels there.1
    (λ i j d before lt. apart (suc i) (suc j) d (omega arith) (omega arith)) in
    let both = sums_add _ _ _ (λ b. finds_first test w wheels b none) (box_of model) in
    omega (arith, once_in_box model w.wheel (test w) there.0, rest, both, count_by-cons test w wheels)

-- ---- all settings
module _ (m : RotorParts) (s : RotorDay) where
  abbrev wrong : SheetWheel → Bool
  wrong w = not (option_map_or (nat_eq w.ring) (ring_at m w.wheel) false)

  counted_rings : AreCounted (flat_map (wheel_ring_line (Rotor m) s.wheels) (box_of m.model))
      (count_by (finds_wheel wrong s.wheels) (box_of m.model)) 0
  counted_rings =
      rw (lines_of_each (wheel_ring_line (Rotor m) s.wheels) (box_of m.model) 1) (rw sum_none at
      (counted_each (λ n wheel. wheel_ring_line (Rotor m) s.wheels wheel)
      (λ wheel. cond (finds_wheel wrong s.wheels wheel) 1 0) (λ z. 0)
      (λ n wheel. grind (arith, counted_loose)) (box_of m.model) 1))

  rotor_counted : AreLegalSeats m.model (seats_of_wheels s.wheels)
      → AreCounted (loose_lines (Rotor m) (Rotor s)) (loose_count (Rotor m) (Rotor s)) 0
  rotor_counted seated =
      let there = in_box m.model s.wheels seated in
      let found = found_once wrong m.model s.wheels
      (recursion_from_All _ s.wheels (λ k d lt. (has_wheel-Decides (box_of m.model) _).1 (there k d lt)))
      (days_wheels_have_their_places m.model s.wheels seated) in
      let seats = counted_each slot_seat_line _ (λ z. 0) (λ n z. counted_loose _ _ refl) (zip m.slots s.wheels) 1 in
      let reflector = counted_loose (same_reflector m.reflector s.reflector) (SeatReflector s.reflector) refl in
      let turns = counted_each (slot_turn_line (Rotor m)) _ (λ z. 0) (λ n w. counted_loose _ _ refl) s.wheels 1 in
      let all = simp sum_none at (counted-append _ _ (counted-append _ _ (counted-append _ _ seats reflector)
      counted_rings) turns) in
      record { count = grind (arith, all.count, found); priced = all.priced }

-- PIN for all pins: each wheel has a pin for each of its letters, both in the machine and on the day.
module _ (m : PinParts) (s : PinDay) (machine : HasAllPins m.pins) (legal : HasAllPins s.pins) where
  counted_wheel : (number : ℕ) → let present = wheel_pins m.pins number in let wanted = wheel_pins s.pins number in
      AreCounted (wheel_pin_lines number (present, wanted))
      (count_by (λ (pin : Bool × Bool). exactly_one pin.0 pin.1) (zip present wanted)) 0
  counted_wheel number =
      let pins = zip (wheel_pins m.pins number) (wheel_pins s.pins number) in
      let differs = λ (pin : Bool × Bool). cond {A = ℕ} (exactly_one pin.0 pin.1) 1 0 in
      let all = rw sum_none at (counted_each (λ n cell. pin_line number cell) (λ cell. differs cell.1) (λ z. 0)
      (λ n cell. grind (arith, counted_loose)) (zip (ring_of number) pins) 1) in
      let size = length-zip (wheel_pins m.pins number) (wheel_pins s.pins number) in
      let each = beside_each differs (ring_of number) pins (omega (arith, size, machine number, legal number)) in
      rw (lines_of_each (pin_line number) (zip (ring_of number) pins) 1, ← each) all

  pin_counted : AreCounted (loose_lines (Pin m) (Pin s)) (loose_count (Pin m) (Pin s)) 0
  pin_counted =
      let none : AreCounted [] 0 0 = record { count = refl; priced = refl } in
      let pins = counted-append _ _ (counted_wheel 1) (counted-append _ _ (counted_wheel 2) (counted-append _ _
      (counted_wheel 3) (counted-append _ _ (counted_wheel 4) (counted-append _ _ (counted_wheel 5)
      (counted-append _ _ (counted_wheel 6) none))))) in
      let turns = counted_each pin_wheel_turn_line _ (λ z. 0) (λ n z. counted_loose _ _ refl)
      (zip m.letters s.window) 1 in
      let all = simp sum_none at (counted-append (lines_from wheel_pin_lines 1 (zip (pins_of m.pins) (pins_of s.pins)))
      _ pins turns) in
      record { count = omega (arith, all.count); priced = all.priced }

pub all_counted : (m : Parts) (s : Day) → IsMachine m → IsLegalDay s → model_of m ≡ day_model s
    → AreCounted (loose_lines m s) (loose_count m s) 0
all_counted (Rotor m) (Rotor s) machine legal same =
    rotor_counted m s (subst (λ model. AreLegalSeats model (seats_of_wheels s.wheels)) (sym same) legal.wheels)
all_counted (Pin m) (Pin s) machine legal same = pin_counted m s machine.legal.pins legal.pins
all_counted m s machine legal same = record { count = refl; priced = refl }

pub loose_things_are_counted : LooseThingsAreCounted
loose_things_are_counted m s machine legal same = omega (arith, (all_counted m s machine legal same).count)

-- ---- there is room for all settings
pub few_in_box : (model : Model) → length (box_of model) ≤ 10
few_in_box model = grind arith
