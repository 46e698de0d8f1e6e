-- Pairs of a plugboard: what each letter is exchanged for, and the table of all letters.
use Rattle.std.proofs.Common.{All, Bool, Contains, List, [], arith, false, get_or, inl, inr, nat_eq, length, refl}
use Rattle.std.proofs.Common.{rules, slice_index, suc, sym, true, zero, ℕ, ◌<◌, ◌↔◌, ◌∙◌, ◌∷◌, ◌≡◌, ◌⊎◌}
use Rattle.kd_enigma.{proofs.Ways.each_letter, specs.Plugs.{HavePairOf, NoLetterTwice, letters_in_pairs}}
use Rattle.kd_enigma.specs.{Cipher.IsPlugboard, Laws.{PairsExchange, PairsMakeAPlugboard, SamePairsExchangeAlike}}
use Rattle.kd_tables.proofs.DistinctLetters.{IsDistinct-nil, new_tells}
use Rattle.kd_tables.specs.{Pairs.has_letter, Permutation.{exchange, exchanged}}
use Rattle.std.proofs.lemmas.Bool.{cases_Bool, cases_eq, eq-eqb, eqb-true, false_from_ne_true, false≢true}
use Rattle.std.proofs.lemmas.{Bool.Decides.nat_tests, List.Folds.{Any-from_list_any, list_any_at}}
use Rattle.std.proofs.lemmas.{List.Elements.{All-nil}}
use Rattle.std.proofs.lemmas.List.FromFn.{fill_by_all, get_or-map-range_with_len, length-map-range_with_len}

-- ---- the letters of pairs

-- whether the letter is in one of the pairs
abbrev lies_in_pairs : ℕ → List (ℕ × ℕ) → Bool
lies_in_pairs x pairs = has_letter (letters_in_pairs pairs) x

-- The letters of the first pair differ, and aren't in the other pairs, which have no letter twice.
record IsFirstApart (pair : ℕ × ℕ) (pairs : List (ℕ × ℕ)) : Type 0 where
  differ : nat_eq pair.1 pair.0 ≡ false
  one : lies_in_pairs pair.0 pairs ≡ false
  other : lies_in_pairs pair.1 pairs ≡ false
  rest : NoLetterTwice pairs

NoLetterTwice-first : (pair : ℕ × ℕ) (pairs : List (ℕ × ℕ)) → NoLetterTwice (pair ∷ pairs) → IsFirstApart pair pairs
NoLetterTwice-first pair pairs once =
    let both = (new_tells (pair.0 ∷ pair.1 ∷ []) (letters_in_pairs pairs)).0 once in grind (arith, nat_tests, both)

-- ---- what a letter is exchanged for

exchanged_free : (pairs : List (ℕ × ℕ)) (x : ℕ) → lies_in_pairs x pairs ≡ false → exchanged pairs x ≡ x
exchanged_free [] x h = refl
exchanged_free (pair ∷ pairs) x h = grind (arith, nat_tests, exchanged_free pairs x)

exchanged_stays : (pairs : List (ℕ × ℕ)) (x : ℕ) → lies_in_pairs x pairs ≡ true
    → lies_in_pairs (exchanged pairs x) pairs ≡ true
exchanged_stays [] x h = h
exchanged_stays (pair ∷ pairs) x h = grind (arith, nat_tests, exchanged_stays pairs x)

returns_where_it_came_from : (pairs : List (ℕ × ℕ)) (x : ℕ) → NoLetterTwice pairs
    → exchanged pairs (exchanged pairs x) ≡ x
returns_where_it_came_from [] x h = refl
returns_where_it_came_from (pair ∷ pairs) x h =
    let first = NoLetterTwice-first pair pairs h in
    grind (arith, nat_tests, exchanged_stays pairs x, exchanged_free pairs x, returns_where_it_came_from pairs x)

-- ---- where a letter leads

contains_later : (pair : ℕ × ℕ) (pairs : List (ℕ × ℕ)) (x y : ℕ) → HavePairOf pairs x y → HavePairOf (pair ∷ pairs) x y
contains_later pair pairs x y (inl c) = inl (suc c.0, omega (arith, c.1), c.2)
contains_later pair pairs x y (inr c) = inr (suc c.0, omega (arith, c.1), c.2)

-- A letter that occurs in a pair is exchanged for the other letter of this pair.
exchanged-HavePairOf : (pairs : List (ℕ × ℕ)) (x y : ℕ) → lies_in_pairs x pairs ≡ true → exchanged pairs x ≡ y
    → HavePairOf pairs x y
exchanged-HavePairOf [] x y h e = absurd (false≢true h)
exchanged-HavePairOf (pair ∷ pairs) x y h e =
    elim (cases_eq x pair.0) [
      | inl same ↦
          let other : pair.1 ≡ y = grind (arith, nat_tests) in inl (zero, omega arith, λ i. (sym same i, other i))
      | inr n ↦ elim (cases_eq x pair.1) [
        | inl same ↦
            let other : pair.0 ≡ y = grind (arith, nat_tests) in inr (zero, omega arith, λ i. (other i, sym same i))
        | inr m ↦ contains_later pair pairs x y
            (exchanged-HavePairOf pairs x y (grind (arith, nat_tests)) (grind (arith, nat_tests)))
      ]
    ]

-- `x` and `y` are exchanged for one another.
record AreExchanged (pairs : List (ℕ × ℕ)) (x y : ℕ) : Type 0 where
  there : exchanged pairs x ≡ y
  back : exchanged pairs y ≡ x
  first : lies_in_pairs x pairs ≡ true
  second : lies_in_pairs y pairs ≡ true

cable_at : (pairs : List (ℕ × ℕ)) (v : ℕ × ℕ) (k : ℕ) → NoLetterTwice pairs → k < length pairs
    → get_or pairs k v ≡ v
    → AreExchanged pairs v.0 v.1
cable_at [] v k h lt e = absurd (omega arith)
cable_at (pair ∷ pairs) v zero h lt e =
    let first = NoLetterTwice-first pair pairs h in grind (arith, nat_tests)
cable_at (pair ∷ pairs) v (suc k) h lt e =
    let first = NoLetterTwice-first pair pairs h in
    grind (arith, nat_tests, cable_at pairs v k first.rest (omega arith) e)

HavePairOf-exchanged : (pairs : List (ℕ × ℕ)) (x y : ℕ) → NoLetterTwice pairs → HavePairOf pairs x y
    → exchanged pairs x ≡ y
HavePairOf-exchanged pairs x y e d = grind (arith, cable_at)

exchanged-cases : (pairs : List (ℕ × ℕ)) (x y : ℕ) → exchanged pairs x ≡ y
    → HavePairOf pairs x y ⊎ ((x ≡ y) × ¬ Contains (letters_in_pairs pairs) x)
exchanged-cases pairs x y e = grind (arith, cases_Bool, exchanged-HavePairOf, exchanged_free, list_any_at, eq-eqb)

exchanged_by : (pairs : List (ℕ × ℕ)) (x y : ℕ) → NoLetterTwice pairs
    → HavePairOf pairs x y ⊎ ((x ≡ y) × ¬ Contains (letters_in_pairs pairs) x) → exchanged pairs x ≡ y
exchanged_by pairs x y h (inl j) = HavePairOf-exchanged pairs x y h j
exchanged_by pairs x y h (inr left) = search (rules, exchanged_free, false_from_ne_true, Any-from_list_any, eqb-true)

pub pairs_exchange : PairsExchange
pairs_exchange pairs x y once = (exchanged-cases pairs x y, exchanged_by pairs x y once)

exchanged_alike : (ps qs : List (ℕ × ℕ)) (x : ℕ) → NoLetterTwice ps → NoLetterTwice qs
    → ((y : ℕ) → HavePairOf ps x y ↔ HavePairOf qs x y) → exchanged ps x ≡ exchanged qs x
exchanged_alike ps qs x hp hq same = elim (exchanged-cases ps x (exchanged ps x) refl) [
  | inl there ↦ sym (HavePairOf-exchanged qs x (exchanged ps x) hq ((same (exchanged ps x)).0 there))
  | inr free ↦ elim (exchanged-cases qs x (exchanged qs x) refl) [
    | inl there ↦ HavePairOf-exchanged ps x (exchanged qs x) hp ((same (exchanged qs x)).1 there)
    | inr also ↦ sym free.0 ∙ also.0
  ]
]

-- ---- the whole plugboard

exchange-at : (pairs : List (ℕ × ℕ)) (x : ℕ) → x < 26 → slice_index (exchange pairs) x ≡ exchanged pairs x
unfolding exchange
exchange-at pairs x lt = get_or-map-range_with_len (exchanged pairs) 0 26 x x 0 lt (omega arith)

exchange-size : (pairs : List (ℕ × ℕ)) → length (exchange pairs) ≡ 26
unfolding exchange
exchange-size pairs = length-map-range_with_len (exchanged pairs) 0 26

pub exchange_is : (table : List ℕ) (pairs : List (ℕ × ℕ)) → length table ≡ 26 → ((x : ℕ) → x < 26
    → slice_index table x ≡ exchanged pairs x) → table ≡ exchange pairs
unfolding exchange
exchange_is table pairs size each = fill_by_all (exchanged pairs) table 26 0 size each

pub same_pairs_exchange_alike : SamePairsExchangeAlike
same_pairs_exchange_alike ps qs once also same =
    exchange_is (exchange ps) qs (exchange-size ps) (λ x lt. exchange-at ps x lt
    ∙ exchanged_alike ps qs x once also (same x))

exchanged_within : (pairs : List (ℕ × ℕ)) (x : ℕ) → All (λ letter. letter < 26) (letters_in_pairs pairs) → x < 26
    → exchanged pairs x < 26
exchanged_within [] x h lt = lt
exchanged_within (pair ∷ pairs) x h lt =
    grind (arith, nat_tests, h 0 0, h 1 0, exchanged_within pairs x (λ k d k_lt. h (suc (suc k)) d (omega arith)) lt)

pub pairs_make_a_plugboard : PairsMakeAPlugboard
pairs_make_a_plugboard pairs once letters =
    let within : (x : ℕ) → x < 26 → slice_index (exchange pairs) x < 26 =
    λ x lt. omega (arith, exchange-at pairs x lt, exchanged_within pairs x letters lt) in
    let back : (x : ℕ) → x < 26 → slice_index (exchange pairs) (slice_index (exchange pairs) x) ≡ x =
    λ x lt. grind (arith, exchange-at, within, returns_where_it_came_from) in
    record {
      permutation = record {
        size = exchange-size pairs;
        each_once = grind (arith, back);
      };
      own_inverse = each_letter (λ x. slice_index (exchange pairs) (slice_index (exchange pairs) x) ≡ x) back;
    }

pub no_cables : IsPlugboard (exchange [])
no_cables = pairs_make_a_plugboard [] IsDistinct-nil (All-nil (λ letter. letter < 26))
