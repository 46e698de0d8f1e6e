-- On a rotor machine, the cards of several days have the fewest settings in total. A list that leads from one
-- machine to another has at least one setting for each ring and window letter that differs. A card changes only what
-- is wrong for the day, so each of these changes brings the machine nearer to every machine that reads as the day.
pub mod Shortest
unfoldable pub use Shortest.*

-- ---- the number of places where two lists differ

abbrev gap_count : List ℕ → List ℕ → ℕ
gap_count (x ∷ xs) (y ∷ ys) = cond (nat_eq x y) 0 1 + gap_count xs ys
gap_count [] ys = length ys
gap_count xs [] = length xs

gaps-self : (xs : List ℕ) → gap_count xs xs ≡ 0
gaps-self [] = refl
gaps-self (x ∷ xs) = grind (arith, nat_tests, gaps-self xs)

gaps-nil : (xs : List ℕ) → gap_count xs [] ≡ length xs
gaps-nil [] = refl
gaps-nil (x ∷ xs) = refl

gaps-triangle : (xs ys zs : List ℕ) → gap_count xs zs ≤ gap_count xs ys + gap_count ys zs
gaps-triangle (x ∷ xs) (y ∷ ys) (z ∷ zs) = grind (arith, nat_tests, gaps-triangle xs ys zs)
gaps-triangle (x ∷ xs) [] (z ∷ zs) = grind (arith, nat_tests, gaps-nil, gaps-triangle xs [] zs)
gaps-triangle [] (y ∷ ys) (z ∷ zs) = omega (arith, gaps-triangle [] ys zs)
gaps-triangle (x ∷ xs) (y ∷ ys) [] = grind (arith, gaps-nil, gaps-triangle xs ys [])
gaps-triangle xs ys zs = omega arith

gaps-set : (xs ys : List ℕ) (p l : ℕ) → gap_count xs ys ≤ gap_count (set xs p l) ys + 1
gaps-set (x ∷ xs) (y ∷ ys) zero l = grind (arith, nat_tests)
gaps-set (x ∷ xs) (y ∷ ys) (suc p) l = omega (arith, gaps-set xs ys p l)
gaps-set xs ys p l = grind (arith, gaps-nil, length-set)

-- whether `xs` has no letter, or another one than `t`, at place `q`
abbrev is_wrong : List ℕ → ℕ → ℕ → Bool
is_wrong xs q t = not (option_map_or (nat_eq t) (slice_get xs q) false)

-- If `ys` has letter `t` at place `q`, a change of one letter that brings `t` to this place of `xs` leaves one place
-- less at which the two lists differ.
gaps-right : (xs ys : List ℕ) (p l q t : ℕ) → slice_get ys q ≡ Some t
    → cond {A = ℕ} (is_wrong (set xs p l) q t) 1 0 < cond (is_wrong xs q t) 1 0
    → gap_count (set xs p l) ys + 1 ≤ gap_count xs ys
gaps-right (x ∷ xs) (y ∷ ys) zero l zero t e fewer = grind (arith, nat_tests)
gaps-right (x ∷ xs) (y ∷ ys) (suc p) l (suc q) t e fewer = omega (arith, gaps-right xs ys p l q t e fewer)
gaps-right xs ys p l q t e fewer = grind arith

-- If `ys` has the letter of each of the day's wheels, a change of one letter of `xs` that leaves fewer wheels wrong
-- leaves one place less at which the two lists differ.
module _ (place target : SheetWheel → ℕ) (ys : List ℕ) where
  abbrev IsRight : SheetWheel → Type 0
  IsRight w = slice_get ys (place w) ≡ Some (target w)

  abbrev wrong_count : List ℕ → List SheetWheel → ℕ
  wrong_count xs ws = count_by (λ w. is_wrong xs (place w) (target w)) ws

  gaps-fewer : (xs : List ℕ) (p l : ℕ) (ws : List SheetWheel) → All IsRight ws
      → wrong_count (set xs p l) ws < wrong_count xs ws → gap_count (set xs p l) ys + 1 ≤ gap_count xs ys
  gaps-fewer xs p l [] h fewer = absurd (omega arith)
  gaps-fewer xs p l (w ∷ ws) h fewer =
      let before = count_by-cons (λ w. is_wrong xs (place w) (target w)) w ws in
      let after = count_by-cons (λ w. is_wrong (set xs p l) (place w) (target w)) w ws in
      let here = gaps-right xs ys p l (place w) (target w) (All-head IsRight w ws h) in
      grind (arith, here, gaps-fewer xs p l ws (All-tail IsRight w ws h))

-- ---- the cost of cables doesn't depend on their numbers

abbrev Priced : Type 0
Priced = Option (ℕ × ℕ) × ℤ

pub zip-seconds : {A B : Type 0} (us : List A) (zs : List (A × B)) → AllZip (λ u z. u ≡ z.0) us zs
    → zip us (map (λ z. z.1) zs) ≡ zs
zip-seconds [] [] h = refl
zip-seconds (u ∷ us) (z ∷ zs) h = grind (arith, zip-seconds us zs h.1)
zip-seconds us zs h = absurd h

-- If cables are numbered differently, their columns can be put in an order in which the cables cost as much as before.
renumbered : (cables others : List (Option ℕ × Option ℕ)) (ws : List Priced) → IsPermutation others cables
    → length ws ≡ length others
    → (vs : List Priced) × IsPermutation ws vs × (pairing_cost cable_cost cables vs ≡ pairing_cost cable_cost others ws)
renumbered cables others ws order size =
    let there = reordered (λ cable (z : (Option ℕ × Option ℕ) × Priced). cable ≡ z.0) others cables (zip others ws)
    order (rw map-id at (with_prices (λ cable. cable) others ws (sym size))) in
    let second = λ (z : (Option ℕ × Option ℕ) × Priced). z.1 in
    let cost = λ (z : (Option ℕ × Option ℕ) × Priced). cable_cost z.0 z.1.0 in (
      map second there.0,
      subst (λ ws. IsPermutation ws (map second there.0)) (seconds-zip others ws size)
          (IsPermutation-map second _ _ there.1),
      ap (sum_by cost) (zip-seconds cables there.0 there.2) ∙ sum_by-IsPermutation cost _ _ there.1,
    )

-- ---- how far a machine is from another one that reads as the day

abbrev machine_gap : RotorParts → RotorParts → ℕ
machine_gap m n = gap_count m.rings n.rings + gap_count m.letters n.letters

module _ (s : RotorDay) (legal : IsLegalRotorDay s) (o : RotorParts) (reads : ReadsAs (Rotor o) (Rotor s)) where
  -- `loose_for` counts what differs, except cables: slots and the reflector from the day, rings and window letters
  -- from machine `o`. `left_for` adds the cost of the cables at the columns `ws`.
  abbrev loose_for : Parts → ℕ
  loose_for (Rotor m) = loose_slots m.slots s + one_unless (same_reflector m.reflector s.reflector) + machine_gap m o
  loose_for (Pin m) = 0

  abbrev left_for : List Priced → Parts → ℕ
  left_for ws (Rotor m) = loose_for (Rotor m) + pairing_cost cable_cost m.cables ws
  left_for ws (Pin m) = 0

  abbrev loose_letters : RotorParts → ℕ
  loose_letters m = count_by (λ w. not (option_map_or (nat_eq w.letter) (letter_at m w.wheel) false)) s.wheels

  -- machine `m` with other slots, another reflector and other cables
  abbrev with_others : RotorParts → List (Option Wheel) → Reflector → List (Option ℕ × Option ℕ) → Parts
  with_others m slots reflector cables = Rotor (record m { slots = slots; reflector = reflector; cables = cables })

  -- `left_for` falls by at most one if the rings and the window letters stay.
  falls_by_one : (ws : List Priced) (m : RotorParts) (slots : List (Option Wheel)) (reflector : Reflector)
      (cables : List (Option ℕ × Option ℕ)) (x : Setting) (after : Parts) → m.model ≡ s.model
      → Carries (Rotor m) x after → with_others m slots reflector cables ≡ after
      → left_for ws (Rotor m) ≤ left_for ws after + 1
  falls_by_one ws m slots reflector cables x after same carries made =
      let falls = subst (λ k. left_to_do ws [] (Rotor m) (Rotor s) ≤ left_to_do ws [] k (Rotor s) + 1) (sym made)
      (left_to_do-lowered ws [] (Rotor m) (Rotor s) x after legal same carries) in
      subst (λ k. left_for ws (Rotor m) ≤ left_for ws k + 1) made (omega (arith, falls))

  left_for-changed : (ws : List Priced) (m : Parts) (x : Setting) (after : Parts) → model_of m ≡ s.model
      → Carries m x after → left_for ws m ≤ left_for ws after + 1
  left_for-changed ws (Rotor m) (RingTo wheel letter) after same e =
      if_carried (λ n. left_for ws (Rotor m) ≤ left_for ws n + 1) e (grind (arith, gaps-set))
  left_for-changed ws (Rotor m) (Turn slot letter) after same e =
      if_carried (λ n. left_for ws (Rotor m) ≤ left_for ws n + 1) e (grind (arith, gaps-set))
  left_for-changed ws (Rotor m) (Pull cable letter) after same e =
      falls_by_one ws m m.slots m.reflector _ (Pull cable letter) after same e (pulled m cable letter after e).made
  left_for-changed ws (Rotor m) (Put cable letter) after same e =
      falls_by_one ws m m.slots m.reflector _ (Put cable letter) after same e (was_put m cable letter after e).made
  left_for-changed ws (Rotor m) (Seat slot wheel) after same e =
      falls_by_one ws m _ m.reflector m.cables (Seat slot wheel) after same e (seat_made m slot wheel after e).1
  left_for-changed ws (Rotor m) (SeatReflector reflector) after same e =
      falls_by_one ws m m.slots _ m.cables (SeatReflector reflector) after same e (reflector_made m reflector after e).1
  left_for-changed ws (Rotor m) x after same e = absurd (cc)
  left_for-changed ws (Pin m) x after same e = omega arith

  left_for-list : (ws : List Priced) (m n : Parts) (xs : List Setting) → model_of m ≡ s.model → Leads m xs n
      → left_for ws m ≤ left_for ws n + length xs
  left_for-list ws m n [] same leads = subst (λ n. left_for ws m ≤ left_for ws n + 0) (sym leads) (omega arith)
  left_for-list ws m n (x ∷ xs) same leads =
      omega (
        arith,
        left_for-list ws leads.0 n xs (model_of-changed m x leads.0 leads.1 ∙ same) leads.2,
        left_for-changed ws m x leads.0 same leads.1,
      )

  one_is_needed : (m : RotorParts) (slots : List (Option Wheel)) (reflector : Reflector)
      (cables : List (Option ℕ × Option ℕ)) (x : Setting) (after : Parts) → Carries (Rotor m) x after
      → with_others m slots reflector cables ≡ after → IsSettingNeeded (Rotor m) (Rotor s) x
      → loose_for after + 1 ≤ loose_for (Rotor m) + cond (is_priced_setting x) 1 0
  one_is_needed m slots reflector cables x after carries made needed =
      let one = subst
      (λ k. loose_count (Rotor m) (Rotor s) + cond (is_priced_setting x) 1 0 ≡ loose_count k (Rotor s) + 1)
      (sym made) (needed_one (Rotor m) (Rotor s) x (is_priced_setting x) after refl carries needed) in
      subst (λ k. loose_for k + 1 ≤ loose_for (Rotor m) + cond (is_priced_setting x) 1 0) made (omega (arith, one))

  -- A needed setting lowers `loose_for` by at least one, unless it changes a cable.
  loose_for-needed : (m : Parts) (x : Setting) (after : Parts) → model_of m ≡ s.model → Carries m x after
      → IsSettingNeeded m (Rotor s) x → loose_for after + 1 ≤ loose_for m + cond (is_priced_setting x) 1 0
  loose_for-needed (Rotor m) (RingTo wheel letter) after same e needed =
      let fewer = gaps-fewer (λ w. place_in_box m.model w.wheel) (λ w. w.ring) o.rings m.rings
      (place_in_box m.model wheel) letter s.wheels (rw (reads.key.model ∙ sym same) at reads.key.rings) in
      let made = ring_made m wheel letter after e in
      let one = needed_one (Rotor m) (Rotor s) (RingTo wheel letter) false after refl e needed in
      subst (λ n. loose_for n + 1 ≤ loose_for (Rotor m) + 0) made (omega (arith, rw (← made) at one, fewer))
  loose_for-needed (Rotor m) (Turn slot letter) after same e needed =
      let (wheel, made) = turn_made m slot letter after e in
      let fewer = gaps-fewer (λ w. place_in_box m.model w.wheel) (λ w. w.letter) o.letters m.letters
      (place_in_box m.model wheel) letter s.wheels (rw (reads.key.model ∙ sym same) at reads.window) in
      let one = needed_one (Rotor m) (Rotor s) (Turn slot letter) false after refl e needed in
      subst (λ n. loose_for n + 1 ≤ loose_for (Rotor m) + 0) made (omega (arith, rw (← made) at one, fewer))
  loose_for-needed (Rotor m) (Pull cable letter) after same e needed =
      one_is_needed m m.slots m.reflector _ (Pull cable letter) after e (pulled m cable letter after e).made needed
  loose_for-needed (Rotor m) (Put cable letter) after same e needed =
      one_is_needed m m.slots m.reflector _ (Put cable letter) after e (was_put m cable letter after e).made needed
  loose_for-needed (Rotor m) (Seat slot wheel) after same e needed =
      one_is_needed m _ m.reflector m.cables (Seat slot wheel) after e (seat_made m slot wheel after e).1 needed
  loose_for-needed (Rotor m) (SeatReflector reflector) after same e needed =
      one_is_needed m m.slots _ m.cables (SeatReflector reflector) after e (reflector_made m reflector after e).1 needed
  loose_for-needed (Rotor m) x after same e needed = absurd (cc)
  loose_for-needed (Pin m) x after same e needed = absurd (no_rotors s.model s.reflector (sym same) legal.reflector)

  loose_for-list : (m n : Parts) (xs : List Setting) → model_of m ≡ s.model → Leads m xs n
      → AreSettingsNeeded m (Rotor s) xs → loose_for n + length xs ≤ loose_for m + priced_count xs
  loose_for-list m n [] same leads needed = subst (λ n. loose_for n + 0 ≤ loose_for m + 0) (sym leads) (omega arith)
  loose_for-list m n (x ∷ xs) same leads needed =
      let rest = loose_for-list leads.0 n xs (model_of-changed m x leads.0 leads.1 ∙ same) leads.2
      (needed_then m leads.0 (Rotor s) x xs leads.1 needed) in
      omega (arith, rest, loose_for-needed m x leads.0 same leads.1 needed.2, count_by-cons is_priced_setting x xs)

-- ---- one day, and day after day

abbrev fixed_parts : RotorParts → Model × List (Option Wheel) × Reflector
fixed_parts m = (m.model, m.slots, m.reflector)

-- Two machines, one reached by cards and one by other lists, agree in model, slots and reflector, and have the same 13
-- cables, in any order. They may differ in rings and window letters.
record AgreeButForLetters (g n : RotorParts) : Type 0 where
  same : fixed_parts g ≡ fixed_parts n
  cables : IsPermutation n.cables g.cables
  count : length n.cables ≡ 13

module _ (g n h o : RotorParts) (s : RotorDay) (card list : List Setting) (legal : IsLegalRotorDay s)
    (near : AgreeButForLetters g n) (by_card : ReachesDay (Rotor g) (Rotor s) card (Rotor h))
    (by_list : ReachesDay (Rotor n) (Rotor s) list (Rotor o)) where
  -- A card is longer than the other list by at most as much as the two machines come nearer to each other in rings
  -- and window letters.
  card-at_most : (prices : PriceParts) → ArePrices prices → ProvesByNumber (Rotor g) (Rotor s) card prices
      → length card + machine_gap h o ≤ length list + machine_gap g n
  card-at_most (Cables row column) are proves =
      let due = cables_paired o.cables s.pairs column legal.pairs.few are.1.count by_list.reads.key.cables in
      let model = ap (λ z. z.0) (sym near.same) ∙ proves.model in
      let falls = left_for-list s legal o by_list.reads due.beside (Rotor n) (Rotor o) list model by_list.leads in
      let last = thirteen_cables o.cables s.pairs legal.pairs.few by_list.reads.key.cables in
      let there = renumbered g.cables n.cables due.beside near.cables (omega (arith, due.count, last, near.count)) in
      let order = IsPermutation-trans _ due.beside there.0 due.order there.1 in
      let none = nothing_loose (Rotor o) (Rotor s) by_list.reads in
      let slots = ap (λ z. loose_slots z.1 s) near.same in
      let reflector = ap (λ z. one_unless (same_reflector z.2 s.reflector)) near.same in
      let first = length_permutation n.cables g.cables near.cables ∙ near.count in
      let bound = bounded (None, None) None cable_cost g.cables (columns_of s.pairs) (Cables row column)
      (loose_for s legal o by_list.reads (Rotor n)) (length list) first
      (thirteen_columns s.pairs legal.pairs.few) are.0.count are.1.count proves.fits there.0 order
      (omega (arith, none, due.free, there.2, gaps-self o.rings, gaps-self o.letters)) in
      let paid = loose_for-list s legal o by_list.reads (Rotor g) (Rotor h) card proves.model by_card.leads
      proves.needed in
      let rings = gaps-triangle g.rings n.rings o.rings in
      let letters = gaps-triangle g.letters n.letters o.letters in
      omega (arith, ints, bound.bound)
  card-at_most prices are proves = absurd proves.kind

  agree-next : AgreeButForLetters h o
  agree-next = record {
    same = cc;
    cables = IsPermutation-trans o.cables (cables_of s.pairs) h.cables by_list.reads.key.cables
        (IsPermutation-sym h.cables (cables_of s.pairs) by_card.reads.key.cables);
    count = thirteen_cables o.cables s.pairs legal.pairs.few by_list.reads.key.cables;
  }

sum_by-fewest : (days : List Day) (g n : RotorParts) (cards lists : List (List Setting)) → g.model ≢ M209
    → All IsLegalDay days → AgreeButForLetters g n → DayAfterDay IsProvedCard (Rotor g) days cards
    → DayAfterDay ReachesDay (Rotor n) days lists → sum_by length cards ≤ sum_by length lists + machine_gap g n
sum_by-fewest [] g n [] [] rotor legal near are lead = omega arith
sum_by-fewest (Rotor s ∷ days) g n (card ∷ cards) (list ∷ lists) rotor legal near (Rotor h, to, rest)
    (Rotor o, by, more) =
    let here = All-head IsLegalDay (Rotor s) days legal in
    let are : ArePrices to.proves.numbered = grind arith in
    let one = card-at_most g n h o s card list here near to.reaches by to.proves.numbered are to.proves.proves in
    let same = model_of-list (Rotor g) (Rotor h) card to.reaches.leads in
    let now = agree-next g n h o s card list here near to.reaches by in
    let lawful = All-tail IsLegalDay (Rotor s) days legal in
    let later = sum_by-fewest days h o cards lists (λ e. rotor (sym same ∙ e)) lawful now rest more in
    simp sum_by-cons (omega (arith, one, later))
sum_by-fewest (Pin s ∷ days) g n (card ∷ cards) (list ∷ lists) rotor legal near (Pin h, to, rest) lead =
    absurd (rotor (sym (model_of-list (Rotor g) (Pin h) card to.reaches.leads)))
sum_by-fewest days g n cards lists rotor legal near are lead = grind arith

pub cards_are_fewest_in_all : CardsAreFewestInAll
cards_are_fewest_in_all (Rotor m) days cards lists machine rotor legal are lead =
    let near : AgreeButForLetters m m =
    record { same = refl; cables = IsPermutation-refl m.cables; count = machine.legal.cables.count } in
    grind (arith, sum_by-fewest days m m cards lists rotor legal near are lead, sum-map, gaps-self)
cards_are_fewest_in_all (Pin m) days cards lists machine rotor legal are lead = absurd (rotor refl)
