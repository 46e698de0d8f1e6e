-- The cost of an assignment falls by at most one with each setting that changes a cable or a bar. Any other
-- setting lowers the number of loose things by at most one.
pub mod Duality
unfoldable pub use Duality.*

pub not_differing : (b : Bool) → exactly_one b b ≡ false
not_differing b = grind arith

pub one_less : (place : ℕ) → suc place - 1 ≡ place
one_less place = omega arith

-- ---- a letter is pulled out of a cable, or put into one

-- The two lists have the same letters, except perhaps for letter `x`.
abbrev pub SameBut : ℕ → List ℕ → List ℕ → Type 0
SameBut x letters others =
    (letter : ℕ) → (has_letter letters letter ≡ has_letter others letter) ⊎ (nat_eq x letter ≡ true)

pulled_same : (letter : ℕ) (one other : Option ℕ) → has_letter (cable_letters (one, other)) letter ≡ true
    → SameBut letter (cable_letters (one, other)) (cable_letters (cable_without letter (one, other)))
pulled_same x one other there letter = grind (arith, nat_tests)

put_same : (letter : ℕ) (one other : Option ℕ) → (is_some one && is_some other) ≡ false
    → SameBut letter (cable_letters (one, other)) (cable_letters (cable_with letter (one, other)))
put_same x one other loose letter = grind (arith, nat_tests, cond_both)

counted_apart : (letters others wanted : List ℕ) (x : ℕ) → SameBut x letters others → (alphabet : List ℕ)
    → count_by (λ letter. exactly_one (has_letter letters letter) (has_letter wanted letter)) alphabet
    ≤ count_by (λ letter. exactly_one (has_letter others letter) (has_letter wanted letter)) alphabet
    + count_by (nat_eq x) alphabet
counted_apart letters others wanted x same [] = omega arith
counted_apart letters others wanted x same (letter ∷ alphabet) =
    grind (arith, common_steps, count_by-cons, counted_apart letters others wanted x same alphabet, same, at_most_one)

pub cables_fall : (m : RotorParts) (cable letter : ℕ) (old new : Option ℕ × Option ℕ)
    (ws : List (Option (ℕ × ℕ) × ℤ)) → IsNumbered m.cables cable old
    → SameBut letter (cable_letters old) (cable_letters new)
    → pairing_cost cable_cost m.cables ws ≤ pairing_cost cable_cost (set m.cables (cable - 1) new) ws + 1
cables_fall m cable letter old new ws there same =
    let here = get_or_from_slice_get m.cables (cable - 1) old old there.here in
    zip_set (λ pair. cable_cost pair.0 pair.1.0) m.cables ws (cable - 1) new old (λ w.
    let fewer = counted_apart (cable_letters old) (cable_letters new) (column_letters w.0) letter same alphabet in
    subst (λ was. cable_cost was w.0 ≤ cable_cost new w.0 + 1) (sym here) (omega (arith, once_in_alphabet letter)))

-- ---- one lug of a bar is moved

pub unless_same_at_most : (b : Bool) → one_unless b ≤ 1
unless_same_at_most b = grind arith

lugs_moved_step : (lug : Lug) (place : Place) (standing other : Place × Place)
    → lugs_moved standing other ≤ lugs_moved (with_lug lug place standing) other + 1
lugs_moved_step lug place standing other = grind (arith, unless_same_at_most)

least_falls : {X : Type 0} (f g : X → ℕ) → ((x : X) → f x ≤ g x + 1) → (xs : List X) (a b : ℕ) → a ≤ b + 1
    → fold min a (map f xs) ≤ fold min b (map g xs) + 1
least_falls f g h [] a b start = start
least_falls f g h (x ∷ xs) a b start = least_falls f g h xs (min a (f x)) (min b (g x)) (omega (arith, h x))

pub bars_fall : (m : PinParts) (ws : List ((ℕ × ℕ) × ℤ)) (bar : ℕ) (lug : Lug) (place : Place)
    (old : Place × Place) → IsNumbered m.bars bar old
    → pairing_cost bar_cost m.bars ws ≤ pairing_cost bar_cost (set m.bars (bar - 1) (with_lug lug place old)) ws + 1
bars_fall m ws bar lug place old there =
    let new = with_lug lug place old in
    let here = get_or_from_slice_get m.bars (bar - 1) old old there.here in
    zip_set (λ pair. bar_cost pair.0 pair.1.0) m.bars ws (bar - 1) new old (λ w.
    let step = lugs_moved_step lug place old in
    subst (λ was. bar_cost was w.0 ≤ bar_cost new w.0 + 1) (sym here)
    (least_falls (lugs_moved old) (lugs_moved new) step (standings_as w.0) 2 2 (omega arith)))

-- ---- settings keep the lugs of each bar in order

abbrev pub HasLugsInOrder : Place × Place → Type 0
HasLugsInOrder bar = IsBefore bar.0 bar.1

abbrev pub HaveLugsInOrder : Parts → Type 0
HaveLugsInOrder (Rotor m) = Unit {0}
HaveLugsInOrder (Pin m) = All HasLugsInOrder m.bars

setting_keeps : (m : Parts) (x : Setting) (after : Parts) → Carries m x after → HaveLugsInOrder m
    → HaveLugsInOrder after
setting_keeps (Pin m) (LugTo bar lug place) after e h =
    let moved = lug_moved m bar lug place after e in
    subst HaveLugsInOrder moved.made (All-set HasLugsInOrder _ _ (with_lug lug place moved.old) moved.before h)
setting_keeps m x after e h = grind arith

pub list_keeps : (m n : Parts) (xs : List Setting) → Leads m xs n → HaveLugsInOrder m → HaveLugsInOrder n
list_keeps m n [] leads h = subst HaveLugsInOrder (sym leads) h
list_keeps m n (x ∷ xs) leads h =
    list_keeps leads.0 n xs leads.2 (setting_keeps m x leads.0 leads.1 h)

-- ---- loose things

zip_set_lowers : {X Y : Type 0} (p : X × Y → Bool) (xs : List X) (ys : List Y) (i : ℕ) (v : X)
    → count_by p (zip xs ys) ≤ count_by p (zip (set xs i v) ys) + 1
zip_set_lowers p xs ys i v =
    zip_set (λ z. cond (p z) 1 0) xs ys i v v (λ y. omega (arith, at_most_one (p (get_or xs i v, y))))

-- A change of one letter makes at most one thing right, if the things are at different places.
module _ {X : Type 0} (place target : X → ℕ) where
  abbrev wrong : List ℕ → X → Bool
  wrong letters x = not (option_map_or (nat_eq (target x)) (slice_get letters (place x)) false)

  same_elsewhere : (letters : List ℕ) (p l : ℕ) (x : X) → place x ≢ p → wrong (set letters p l) x ≡ wrong letters x
  same_elsewhere letters p l x away = grind (arith, common_steps, nat_eq, set_other)

  other_places : (letters : List ℕ) (p l : ℕ) (xs : List X) → AllByRecursion (λ y. place y ≢ p) xs
      → count_by (wrong (set letters p l)) xs ≡ count_by (wrong letters) xs
  other_places letters p l [] h = refl
  other_places letters p l (x ∷ xs) h =
      grind (arith, common_steps, same_elsewhere, count_by-cons, other_places letters p l xs h.1)

  set_lowers : (letters : List ℕ) (p l : ℕ) (xs : List X) → AllPairs (λ x y. place x ≢ place y) xs
      → count_by (wrong letters) xs ≤ count_by (wrong (set letters p l)) xs + 1
  set_lowers letters p l [] h = omega arith
  set_lowers letters p l (x ∷ xs) h =
      let now = count_by-cons (wrong letters) x xs in
      let later = count_by-cons (wrong (set letters p l)) x xs in
      elim (cases_eq (place x) p) [
        | inl here ↦
            let others = recursion_from_All (λ y. place y ≢ place x) xs
            (λ k d lt same. h zero (suc k) d (omega arith) (omega arith) (sym same)) in
            let rest = other_places letters p l xs (subst (λ q. AllByRecursion (λ y. place y ≢ q) xs) here others) in
            omega (arith, at_most_one (wrong letters x), rest)
        | inr away ↦
            let head = ap (λ b. cond {A = ℕ} b 1 0) (same_elsewhere letters p l x away) in
            let rest = set_lowers letters p l xs
            (λ i j d before within. h (suc i) (suc j) d (omega arith) (omega arith)) in
            omega arith
      ]

-- A slot that is wrong is still wrong after it is emptied.
abbrev wrong_slot : Option Wheel × SheetWheel → Bool
wrong_slot slot = not (option_map_or (same_wheel slot.1.wheel) slot.0 false)

abbrev pub loose_slots : List (Option Wheel) → RotorDay → ℕ
loose_slots slots s = count_by wrong_slot (zip slots s.wheels)

without_raises : (wheel : Wheel) (slots : List (Option Wheel)) (wheels : List SheetWheel)
    → count_by wrong_slot (zip slots wheels) ≤ count_by wrong_slot (zip (map (seat_without wheel) slots) wheels)
without_raises wheel [] wheels = omega arith
without_raises wheel slots [] = grind arith
without_raises wheel (now ∷ slots) (wanted ∷ wheels) =
    grind (arith, common_steps, count_by-cons, at_most_one, without_raises wheel slots wheels)

-- No two of the day's wheels have the same place in the box.
abbrev pub HaveTheirPlaces : Model → List SheetWheel → Type 0
HaveTheirPlaces model wheels =
    AllPairs (λ (w other : SheetWheel). place_in_box model w.wheel ≢ place_in_box model other.wheel) wheels

-- what is left to do: loose things, and the cost of turning the cables into these columns or the bars into
-- these rows
abbrev pub left_to_do : List (Option (ℕ × ℕ) × ℤ) → List ((ℕ × ℕ) × ℤ) → Parts → Day → ℕ
left_to_do columns rows (Rotor m) (Rotor s) = loose_count (Rotor m) (Rotor s)
    + pairing_cost cable_cost m.cables columns
left_to_do columns rows (Pin m) (Pin s) = loose_count (Pin m) (Pin s) + pairing_cost bar_cost m.bars rows
left_to_do columns rows m s = 0

-- Each setting of a rotor machine lowers what is left to do by at most one.
module _ (columns : List (Option (ℕ × ℕ) × ℤ)) (rows : List ((ℕ × ℕ) × ℤ)) (m : RotorParts) (s : RotorDay)
    (apart : HaveTheirPlaces m.model s.wheels) where
  abbrev place : SheetWheel → ℕ
  place w = place_in_box m.model w.wheel

  abbrev LowersByOne : Parts → Type 0
  LowersByOne after = left_to_do columns rows (Rotor m) (Rotor s) ≤ left_to_do columns rows after (Rotor s) + 1

  rotor_lowers : (x : Setting) (after : Parts) → Carries (Rotor m) x after → LowersByOne after
  rotor_lowers (Pull cable letter) after e =
      let p = pulled m cable letter after e in
      let same = pulled_same letter p.old.0 p.old.1 p.has in
      subst LowersByOne p.made (omega (arith, cables_fall m cable letter p.old _ columns p.there same))
  rotor_lowers (Put cable letter) after e =
      let p = was_put m cable letter after e in
      let same = put_same letter p.old.0 p.old.1 p.loose in
      subst LowersByOne p.made (omega (arith, cables_fall m cable letter p.old _ columns p.there same))
  rotor_lowers (Seat slot wheel) after e =
      subst LowersByOne (seat_made m slot wheel after e).1
      (grind (arith, common_steps, without_raises, zip_set_lowers))
  rotor_lowers (SeatReflector reflector) after e =
      subst LowersByOne (reflector_made m reflector after e).1
      (omega (arith, unless_same_at_most (same_reflector m.reflector s.reflector)))
  rotor_lowers (RingTo wheel letter) after e =
      subst LowersByOne (ring_made m wheel letter after e)
      (omega (arith, set_lowers place (λ w. w.ring) m.rings (place_in_box m.model wheel) letter s.wheels apart))
  rotor_lowers (Turn slot letter) after e =
      let (wheel, made) = turn_made m slot letter after e in
      subst LowersByOne made
      (omega (arith, set_lowers place (λ w. w.letter) m.letters (place_in_box m.model wheel) letter s.wheels apart))
  rotor_lowers x after e = absurd (cc)

-- PIN changes one pin, so that at most one pin less differs from the day's.
abbrev differing_pins : List Bool × List Bool → ℕ
differing_pins wheel = count_by (λ (pin : Bool × Bool). exactly_one pin.0 pin.1) (zip wheel.0 wheel.1)

wheel_set_lowers : (xss yss : List (List Bool)) (i p : ℕ) (effective : Bool) → sum (map differing_pins (zip xss yss))
    ≤ sum (map differing_pins (zip (set xss i (set (get_or xss i []) p effective)) yss)) + 1
wheel_set_lowers xss yss i p effective =
    simp sum-map (zip_set differing_pins xss yss i _ [] (λ ys. zip_set_lowers _ (get_or xss i []) ys p effective))

abbrev loose_pins : PinSet → PinSet → ℕ
loose_pins pins wanted = sum (map differing_pins (zip (pins_of pins) (pins_of wanted)))

pin_lowers : (m : PinParts) (s : PinDay) (wheel letter : ℕ) (effective : Bool)
    → has_letter (ring_of wheel) letter ≡ true
    → loose_pins m.pins s.pins ≤ loose_pins (with_pin m.pins wheel letter effective) s.pins + 1
unfolding ring_of
pin_lowers m s zero letter effective e = cc
pin_lowers m s (suc wheel) letter effective e =
    let place = unwrap_or (place_on (ring_of (suc wheel)) letter) 0 in
    let new = set (wheel_pins m.pins (suc wheel)) place effective in
    let all : pins_of (with_pin m.pins (suc wheel) letter effective)
    ≡ set (pins_of m.pins) wheel (set (get_or (pins_of m.pins) wheel []) place effective)
    = six_lists m.pins (suc wheel - 1) new ∙ ap (λ i. set (pins_of m.pins) i new) (one_less wheel)
    ∙ ap (λ pins. set (pins_of m.pins) wheel (set pins place effective))
    (unwrap_or-slice_get (pins_of m.pins) wheel []) in
    subst (λ pins. loose_pins m.pins s.pins ≤ sum (map differing_pins (zip pins (pins_of s.pins))) + 1) (sym all)
    (wheel_set_lowers (pins_of m.pins) (pins_of s.pins) wheel place effective)

pin_machine_lowers : (columns : List (Option (ℕ × ℕ) × ℤ)) (rows : List ((ℕ × ℕ) × ℤ)) (m : PinParts) (s : PinDay)
    (x : Setting) (after : Parts) → Carries (Pin m) x after
    → left_to_do columns rows (Pin m) (Pin s) ≤ left_to_do columns rows after (Pin s) + 1
pin_machine_lowers columns rows m s (LugTo bar lug place) after e =
    let moved = lug_moved m bar lug place after e in
    subst (λ n. left_to_do columns rows (Pin m) (Pin s) ≤ left_to_do columns rows n (Pin s) + 1) moved.made
    (omega (arith, bars_fall m rows bar lug place moved.old moved.there))
pin_machine_lowers columns rows m s (PinTo wheel letter effective) after e =
    let (has, made) = pin_made m wheel letter effective after e in
    subst (λ n. left_to_do columns rows (Pin m) (Pin s) ≤ left_to_do columns rows n (Pin s) + 1) made
    (omega (arith, pin_lowers m s wheel letter effective has))
pin_machine_lowers columns rows m s (Turn wheel letter) after e =
    let (was, there, has, made) = wheel_turn_made m wheel letter after e in
    subst (λ n. left_to_do columns rows (Pin m) (Pin s) ≤ left_to_do columns rows n (Pin s) + 1) made
    (grind (arith, zip_set_lowers))
pin_machine_lowers columns rows m s x after e = absurd (cc)

-- Each setting of any machine lowers what is left to do by at most one.
pub left_to_do-lowered : (columns : List (Option (ℕ × ℕ) × ℤ)) (rows : List ((ℕ × ℕ) × ℤ)) (m : Parts) (s : Day)
    (x : Setting) (after : Parts) → IsLegalDay s → model_of m ≡ day_model s → Carries m x after
    → left_to_do columns rows m s ≤ left_to_do columns rows after s + 1
left_to_do-lowered columns rows (Rotor m) (Rotor s) x after h same e =
    rotor_lowers columns rows m s (subst (λ model. HaveTheirPlaces model s.wheels) (sym same)
    (days_wheels_have_their_places s.model s.wheels h.wheels)) x after e
left_to_do-lowered columns rows (Pin m) (Pin s) x after h same e = pin_machine_lowers columns rows m s x after e
left_to_do-lowered columns rows m s x after h same e = omega arith

-- No setting changes the model. A setting that changes a cable or a bar doesn't change the number of loose things.
pub model_of-changed : (m : Parts) (x : Setting) (after : Parts) → Carries m x after → model_of after ≡ model_of m
model_of-changed m x after e = grind arith

other_cables : (m : RotorParts) (cables : List (Option ℕ × Option ℕ)) (s : Day)
    → loose_count (Rotor (record m { cables = cables })) s ≡ loose_count (Rotor m) s
other_cables m cables s = grind arith

other_bars : (m : PinParts) (bars : List (Place × Place)) (s : Day)
    → loose_count (Pin (record m { bars = bars })) s ≡ loose_count (Pin m) s
other_bars m bars s = grind arith

pub loose_count-priced : (m : Parts) (s : Day) (x : Setting) (after : Parts) → is_priced_setting x ≡ true
    → Carries m x after → loose_count after s ≡ loose_count m s
loose_count-priced (Rotor m) s (Pull cable letter) after e d =
    let p = pulled m cable letter after d in
    ap (λ n. loose_count n s) (sym p.made) ∙ other_cables m (set m.cables (cable - 1) (cable_without letter p.old)) s
loose_count-priced (Rotor m) s (Put cable letter) after e d =
    let p = was_put m cable letter after d in
    ap (λ n. loose_count n s) (sym p.made) ∙ other_cables m (set m.cables (cable - 1) (cable_with letter p.old)) s
loose_count-priced (Pin m) s (LugTo bar lug move) after e d =
    let p = lug_moved m bar lug move after d in
    ap (λ n. loose_count n s) (sym p.made) ∙ other_bars m (set m.bars (bar - 1) (with_lug lug move p.old)) s
loose_count-priced m s x after e d = absurd (cc)

-- A machine that reads as the day has no loose things.
zip_none : {X Y : Type 0} (f : Y × X → ℕ) (seen : X → Y) → ((x : X) → f (seen x, x) ≡ 0) → (xs : List X)
    → sum_by f (zip (map seen xs) xs) ≡ 0
zip_none f seen h [] = refl
zip_none f seen h (x ∷ xs) = sum_by-cons f (seen x, x) (zip (map seen xs) xs) ∙ rw (h x, zip_none f seen h xs) refl

self_none : {X : Type 0} (f : X × X → ℕ) → ((x : X) → f (x, x) ≡ 0) → (xs : List X) → sum_by f (zip xs xs) ≡ 0
self_none f h xs = subst (λ ys. sum_by f (zip ys xs) ≡ 0) (map-id xs) (zip_none f (λ x. x) h xs)

none_wrong : (seen : SheetWheel → Option ℕ) (wanted : SheetWheel → ℕ) (wheels : List SheetWheel)
    → AllByRecursion (λ w. seen w ≡ Some (wanted w)) wheels
    → count_by (λ w. not (option_map_or (nat_eq (wanted w)) (seen w) false)) wheels ≡ 0
none_wrong seen wanted [] h = refl
none_wrong seen wanted (w ∷ wheels) h =
    grind (arith, common_steps, count_by-cons, eq-eqb, none_wrong seen wanted wheels h.1)

rotor_not_loose : (n : RotorParts) (s : RotorDay) → ReadsAs (Rotor n) (Rotor s)
    → loose_count (Rotor n) (Rotor s) ≡ 0
rotor_not_loose n s h =
    let slots : loose_slots n.slots s ≡ 0 = ap (λ slots. count_by wrong_slot (zip slots s.wheels)) h.key.slots
    ∙ zip_none (λ slot. cond (wrong_slot slot) 1 0) (λ w. Some w.wheel)
    (λ w. ap (λ b. cond (not b) 1 0) (same_wheel_self w.wheel)) s.wheels in
    let reflector : one_unless (same_reflector n.reflector s.reflector) ≡ 0 =
    ap (λ reflector. one_unless (same_reflector reflector s.reflector)) h.key.reflector
    ∙ ap one_unless ((same_reflector-Decides s.reflector s.reflector).1 refl) in
    let rings = none_wrong (λ w. ring_at n w.wheel) (λ w. w.ring) s.wheels (recursion_from_All _ _ h.key.rings) in
    let letters = none_wrong (λ w. letter_at n w.wheel) (λ w. w.letter) s.wheels (recursion_from_All _ _ h.window) in
    omega (arith, slots, reflector, rings, letters)

no_pin_wrong : (pins : List Bool) → differing_pins (pins, pins) ≡ 0
no_pin_wrong pins = grind (arith, common_steps, self_none, not_differing)

pin_not_loose : (n : PinParts) (s : PinDay) → ReadsAs (Pin n) (Pin s) → loose_count (Pin n) (Pin s) ≡ 0
pin_not_loose n s h = grind (arith, common_steps, sum-map, self_none, no_pin_wrong, nat_eq, eq-eqb)

pub nothing_loose : (n : Parts) (s : Day) → ReadsAs n s → loose_count n s ≡ 0
nothing_loose n s e = grind (arith, rotor_not_loose, pin_not_loose)
