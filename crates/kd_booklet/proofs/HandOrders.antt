-- A list of settings in an order for the hand leads to the same machine.
use Rattle.std.proofs.Common.{◌≡◌, ℕ, Bool, true, false, not, ◌&&◌, List, [], ◌∷◌, ◌++◌, filter, arith, refl}
use Rattle.std.proofs.Common.{ap₂, ◌∙◌, IsTrue, Result, Ok, Err, append_assoc, length, ◌+◌, ◌-◌, sym}
use Rattle.std.specs.Prelude.{nat_lt, ok_or, slice_set}
use Rattle.std.specs.List.{list_all}
use Rattle.std.specs.Prelude.{IsPermutation}
use Rattle.std.proofs.lemmas.List.Sorted.{IsPermutation-refl, IsPermutation-cons, IsPermutation-trans}
use Rattle.std.proofs.lemmas.List.Sorted.{IsPermutation-sym, IsPermutation-middle}
use Rattle.std.proofs.lemmas.List.Folds.{list_all-append}
use Rattle.std.proofs.lemmas.Bool.{and_parts}
use Rattle.kd_state.specs.declared.machine.parts.Parts.{Parts}
use Rattle.kd_state.specs.declared.setting.Setting.{Setting}
use Rattle.kd_state.specs.declared.setting.Setting.TheVariants.{LugTo, PinTo, Pull, Put, Seat, SeatReflector, RingTo}
use Rattle.kd_state.specs.declared.setting.Setting.TheVariants.{Turn}
use Rattle.kd_state.specs.declared.machine.parts.Parts.TheVariants.{Pin, Rotor}
use Rattle.kd_tables.specs.declared.wheel.Wheel.{Wheel}
use Rattle.kd_tables.specs.Rings.{ring_of}
use Rattle.kd_state.specs.declared.setting.why.Why.{Why}
use Rattle.kd_state.specs.declared.setting.why.Why.TheVariants.{NoSuchBar, NotOnWheel, PlaceTaken, SlotEmpty}
use Rattle.kd_state.specs.declared.setting.why.Why.TheVariants.{WouldPass}
use Rattle.kd_state.specs.FirstFault.{◌>>=◌, ◌>>◌, demand}
use Rattle.kd_state.specs.SameParts.{numbered_item}
use Rattle.kd_state.specs.Setting.{Leads, is_same_place, outcome, with_lug}
use Rattle.kd_tables.specs.{Pairs.has_letter, Places.place_rank}
use Rattle.kd_booklet.specs.declared.stages.Stage.TheVariants.{Rings, Parts as Others, Windows}
use Rattle.kd_booklet.specs.HandOrder.{is_at_stage, is_seat, seats_before_turning, HandOrderLeads}
use Rattle.kd_booklet.specs.HandOrder.{HandOrderIsPermutation}

-- whether setting `x` can be carried out after `y` as well as before it
abbrev pub may_wait : Setting → Setting → Bool
may_wait x (RingTo wheel letter) = not (is_at_stage Rings x)
may_wait x y = is_at_stage Windows x && (is_at_stage Others y && not (is_seat y))

-- A ring can be set before a setting as well as after it.
ring_swaps : (m n : Parts) (x : Setting) (wheel : Wheel) (ring : ℕ) → is_at_stage Rings x ≡ false
    → (outcome m x >>= λ k. outcome k (RingTo wheel ring)) ≡ Ok n
    → (outcome m (RingTo wheel ring) >>= λ k. outcome k x) ≡ Ok n
ring_swaps (Rotor m) n (Pull cable letter) wheel ring other both = grind arith
ring_swaps (Rotor m) n (Put cable letter) wheel ring other both = grind arith
ring_swaps (Rotor m) n (Seat slot seated) wheel ring other both = grind arith
ring_swaps (Rotor m) n (SeatReflector reflector) wheel ring other both = grind arith
ring_swaps (Rotor m) n (Turn slot letter) wheel ring other both = grind arith
ring_swaps (Rotor m) n x wheel ring other both = absurd (cc)
ring_swaps (Pin m) n x wheel ring other both = grind arith

-- Two rows of tests, and what each makes of a machine, in both orders. The second row tests a bar.
lug_swaps : {A B : Type 0} (shown : Result A Why) (has : Bool) (standing : Result B Why) (apart before : B → Bool)
    (off taken passed : Why) (turned : Parts) (moved made : B → Parts) (lug turn : Parts → Result Parts Why) (n : Parts)
    → lug turned ≡ (standing >>= λ bar. demand (apart bar) taken >> (demand (before bar) passed >> Ok (made bar)))
    → ((bar : B) → turn (moved bar) ≡ (shown >>= λ letter. demand has off >> Ok (made bar)))
    → ((shown >>= λ letter. demand has off >> Ok turned) >>= lug) ≡ Ok n
    → ((standing >>= λ bar. demand (apart bar) taken >> (demand (before bar) passed >> Ok (moved bar))) >>= turn) ≡ Ok n
lug_swaps (Err why) has standing apart before off taken passed turned moved made lug turn n e d both = absurd (cc)
lug_swaps (Ok x) false standing apart before off taken passed turned moved made lug turn n e d both = absurd (cc)
lug_swaps (Ok x) true (Err why) apart before off taken passed turned moved made lug turn n e d both =
    absurd (let wrong : Err why ≡ Ok n = sym e ∙ both in cc)
lug_swaps (Ok x) true (Ok bar) apart before off taken passed turned moved made lug turn n e d both =
    grind (arith, e, d bar)

-- A window can be turned after a setting as well as before it, unless the setting puts a wheel into a slot.
turn_swaps : (m n : Parts) (slot letter : ℕ) (y : Setting) → (is_at_stage Others y && not (is_seat y)) ≡ true
    → (outcome m (Turn slot letter) >>= λ k. outcome k y) ≡ Ok n
    → (outcome m y >>= λ k. outcome k (Turn slot letter)) ≡ Ok n
turn_swaps (Rotor m) n slot letter (Pull cable other) may both = grind arith
turn_swaps (Rotor m) n slot letter (Put cable other) may both = grind arith
turn_swaps (Rotor m) n slot letter (SeatReflector reflector) may both = grind arith
turn_swaps (Pin m) n slot letter (PinTo wheel other effective) may both = grind arith
turn_swaps (Pin m) n slot letter (LugTo bar lug place) may both =
    lug_swaps (ok_or (numbered_item m.letters slot) SlotEmpty) (has_letter (ring_of slot) letter)
    (ok_or (numbered_item m.bars bar) NoSuchBar)
    (λ was. not (is_same_place (with_lug lug place was).0 (with_lug lug place was).1))
    (λ was. nat_lt (place_rank (with_lug lug place was).0) (place_rank (with_lug lug place was).1)) NotOnWheel PlaceTaken
    WouldPass
    (Pin (record m { letters = slice_set m.letters (slot - 1) letter }))
    (λ was. Pin (record m { bars = slice_set m.bars (bar - 1) (with_lug lug place was) }))
    (λ was. Pin (record m {
      letters = slice_set m.letters (slot - 1) letter;
      bars = slice_set m.bars (bar - 1) (with_lug lug place was);
    }))
    (λ k. outcome k (LugTo bar lug place)) (λ k. outcome k (Turn slot letter)) n refl (λ was. refl) both
turn_swaps m n slot letter y may both = grind arith

-- Two settings that may change places lead to one machine in both orders.
pub swaps : (m n : Parts) (x y : Setting) → IsTrue (may_wait x y) → (outcome m x >>= λ k. outcome k y) ≡ Ok n
    → (outcome m y >>= λ k. outcome k x) ≡ Ok n
swaps m n x (RingTo wheel ring) may both = ring_swaps m n x wheel ring (grind (arith, may)) both
swaps m n (Turn slot letter) y may both = turn_swaps m n slot letter y (grind (arith, may)) both
swaps m n x y may both = absurd (cc)

joined_of : (first : Result Parts Why) (next : Parts → Result Parts Why) (k n : Parts) → first ≡ Ok k → next k ≡ Ok n
    → (first >>= next) ≡ Ok n
joined_of first next k n e d = grind (arith, e, d)

parts_of : (first : Result Parts Why) (next : Parts → Result Parts Why) (n : Parts) → (first >>= next) ≡ Ok n
    → (k : Parts) × (first ≡ Ok k) × (next k ≡ Ok n)
parts_of (Ok k) next n e = (k, refl, e)
parts_of (Err why) next n e = absurd (cc)

pub leads_both : (m n : Parts) (x y : Setting) (xs : List Setting) → IsTrue (may_wait x y) → Leads m (x ∷ y ∷ xs) n
    → Leads m (y ∷ x ∷ xs) n
leads_both m n x y xs may (one, first, (both, second, leads)) =
    let joined = joined_of (outcome m x) (λ k. outcome k y) one both first second in
    let other = parts_of (outcome m y) (λ k. outcome k x) both (swaps m both x y may joined) in
    (other.0, other.1, (both, other.2, leads))

-- A setting may be carried out after others, if it may be carried out after each of them.
pub passes : (m n : Parts) (x : Setting) (ys xs : List Setting) → IsTrue (list_all (may_wait x) ys)
    → Leads m (x ∷ ys ++ xs) n → Leads m (ys ++ x ∷ xs) n
passes m n x [] xs may leads = leads
passes m n x (y ∷ ys) xs may leads =
    let parts = and_parts (may_wait x y) (list_all (may_wait x) ys) may in
    let swapped = leads_both m n x y (ys ++ xs) parts.0 leads in
    (swapped.0, swapped.1, passes swapped.0 n x ys xs parts.1 swapped.2)

-- Rings, wherever they stand in a list, let every other setting wait.
rings_first : (x : Setting) (xs : List Setting) → is_at_stage Rings x ≡ false
    → list_all (may_wait x) (filter (is_at_stage Rings) xs) ≡ true
rings_first x [] other = refl
rings_first x (RingTo wheel letter ∷ xs) other = grind (arith, rings_first x xs other)
rings_first x (_ ∷ xs) other = rings_first x xs other

turns_wait : (slot letter : ℕ) (xs : List Setting) → list_all (λ y. not (is_seat y)) xs ≡ true
    → list_all (may_wait (Turn slot letter)) (filter (is_at_stage Others) xs) ≡ true
turns_wait slot letter [] none = refl
turns_wait slot letter (Seat other wheel ∷ xs) none = absurd (cc)
turns_wait slot letter (_ ∷ xs) none = turns_wait slot letter xs none

pub no_seats : (xs : List Setting) → list_all (λ y. not (is_seat y)) xs ≡ true → seats_before_turning xs ≡ true
no_seats [] none = refl
no_seats (Seat slot wheel ∷ xs) none = absurd (cc)
no_seats (Turn slot letter ∷ xs) none = none
no_seats (_ ∷ xs) none = no_seats xs none

pub hand_order_leads : HandOrderLeads
hand_order_leads m n [] before leads = leads
hand_order_leads m n (RingTo wheel letter ∷ xs) before leads =
    (leads.0, leads.1, hand_order_leads leads.0 n xs before leads.2)
hand_order_leads m n (Turn slot letter ∷ xs) before leads =
    let rings = filter (is_at_stage Rings) xs in
    let others = filter (is_at_stage Others) xs in
    let turns = filter (is_at_stage Windows) xs in
    let rest = hand_order_leads leads.0 n xs (no_seats xs before) leads.2 in
    let waits : list_all (may_wait (Turn slot letter)) (rings ++ others) ≡ true =
    list_all-append (may_wait (Turn slot letter)) rings others
    ∙ ap₂ (λ a b. a && b) (rings_first (Turn slot letter) xs refl) (turns_wait slot letter xs before) in
    rw append_assoc at (passes m n (Turn slot letter) (rings ++ others) turns waits
    (leads.0, leads.1, rw (append_assoc rings others turns) rest))
hand_order_leads m n (x ∷ xs) before leads =
    passes m n x (filter (is_at_stage Rings) xs)
    (filter (is_at_stage Others) xs ++ filter (is_at_stage Windows) xs) (rings_first x xs refl)
    (leads.0, leads.1, hand_order_leads leads.0 n xs before leads.2)

-- If some settings are a list in another order, one more setting may stand anywhere among them.
one_more : (x : Setting) (xs front back : List Setting) → IsPermutation xs (front ++ back)
    → IsPermutation (x ∷ xs) (front ++ x ∷ back)
one_more x xs front back same =
    IsPermutation-trans (x ∷ xs) (x ∷ front ++ back) (front ++ x ∷ back)
    (IsPermutation-cons x xs (front ++ back) same) (IsPermutation-sym _ _ (IsPermutation-middle front x back))

pub hand_order_permutes : HandOrderIsPermutation
hand_order_permutes [] = IsPermutation-refl []
hand_order_permutes (RingTo wheel letter ∷ xs) = IsPermutation-cons (RingTo wheel letter) xs _ (hand_order_permutes xs)
hand_order_permutes (Turn slot letter ∷ xs) =
    let rings = filter (is_at_stage Rings) xs in
    let others = filter (is_at_stage Others) xs in
    let turns = filter (is_at_stage Windows) xs in
    rw append_assoc at (one_more (Turn slot letter) xs (rings ++ others) turns
    (rw (append_assoc rings others turns) (hand_order_permutes xs)))
hand_order_permutes (x ∷ xs) = one_more x xs (filter (is_at_stage Rings) xs) _ (hand_order_permutes xs)

pub few_at_stages : (xs : List Setting) → length (filter (is_at_stage Rings) xs)
    + (length (filter (is_at_stage Others) xs) + length (filter (is_at_stage Windows) xs)) ≡ length xs
few_at_stages [] = refl
few_at_stages (x ∷ xs) = grind (arith, few_at_stages xs)
