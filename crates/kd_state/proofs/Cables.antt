-- Lemmas on the letters in cables, and on cables that are a day's cables in any order.
use Rattle.kd_state.proofs.Prelude.{option_zip, NoLetterTwice, letters_in_pairs, AreCables, cable_letters}
use Rattle.kd_state.proofs.Prelude.{letters_in_cables, cable_in_order, cable_of_column, cables_of, column_letters}
use Rattle.kd_state.proofs.Prelude.{columns_of, cable_with, All-map, All-permutation, Bool, IsPermutation-sym, list_any}
use Rattle.kd_state.proofs.Prelude.{cable_without, has_letter, is_some, cond_both, eq-eqb, append_assoc, le-leb}
use Rattle.kd_state.proofs.Prelude.{leb-false, true≢false, nat_tests, ◌||◌, ◌-◌, recursion_from_All}
use Rattle.kd_state.proofs.Prelude.{IsPermutation-append, IsPermutation-append_comm, IsPermutation-append_left}
use Rattle.kd_state.proofs.Prelude.{IsPermutation-append_right, IsPermutation-refl, IsPermutation-trans, All}
use Rattle.kd_state.proofs.Prelude.{AllByRecursion, option_map_or, List, None, Option, Some, [], arith, false}
use Rattle.kd_state.proofs.Prelude.{filter_map, get_or, length, map, nat_eq, refl, set, slice_get, suc, true, zero, ℕ}
use Rattle.kd_state.proofs.Prelude.{◌++◌, ◌↔◌, ◌∙◌, ◌∷◌, ◌≡◌, ◌≢◌, IsPermutation, ap, subst, sym, ◌&&◌}
use Rattle.{std.proofs.Common.replicate}
use Rattle.std.proofs.lemmas.List.{Folds.{Any-from_list_any, list_any_at}, Sorted.list_any-IsPermutation}
use Rattle.kd_enigma.specs.Plugs as plugs

-- putting the letters of a cable in order only permutes them
pub ordered_moves : (one other : Option ℕ)
    → IsPermutation (cable_letters (one, other)) (cable_letters (cable_in_order one other))
ordered_moves one other = grind (arith, cond_both, IsPermutation-append_comm)

abbrev pub all_ordered : List (Option ℕ × Option ℕ) → List (Option ℕ × Option ℕ)
all_ordered cables = map (λ cable. cable_in_order cable.0 cable.1) cables

pub all_ordered_move : (cables : List (Option ℕ × Option ℕ))
    → IsPermutation (letters_in_cables cables) (letters_in_cables (all_ordered cables))
all_ordered_move [] = IsPermutation-refl []
all_ordered_move (cable ∷ cables) = grind
    (arith, IsPermutation-append, cable_in_order, ordered_moves, all_ordered_move cables)

-- the letters of the cable are in alphabetical order, and a single letter is in the first end
IsCableOrdered : Option ℕ × Option ℕ → Type 0
IsCableOrdered cable = cable_in_order cable.0 cable.1 ≡ cable

pub ordered_again : (one other : Option ℕ)
    → cable_in_order (cable_in_order one other).0 (cable_in_order one other).1 ≡ cable_in_order one other
unfolding IsCableOrdered
ordered_again one other = grind (arith, cond_both, IsCableOrdered, le-leb, leb-false)

pub all_ordered_again : (cables : List (Option ℕ × Option ℕ)) → all_ordered (all_ordered cables) ≡ all_ordered cables
all_ordered_again [] = refl
all_ordered_again (cable ∷ cables) = grind (arith, ordered_again, cable_in_order, all_ordered_again cables)

pub without_ordered : (letter : ℕ) (one other : Option ℕ)
    → cable_in_order (cable_without letter (one, other)).0 (cable_without letter (one, other)).1
    ≡ cable_without letter (one, other)
unfolding IsCableOrdered
without_ordered letter one other = grind (arith, cond_both, IsCableOrdered)

-- if a letter is taken out of a cable, this letter and those that stay are together the cable's letters
pub without_moves : (letter : ℕ) (one other : Option ℕ) → has_letter (cable_letters (one, other)) letter ≡ true
    → IsPermutation (cable_letters (one, other)) (letter ∷ cable_letters (cable_without letter (one, other)))
without_moves letter one other h =
    grind (arith, true≢false, eq-eqb, Some, IsPermutation-append_comm (cable_letters (one, None)) (letter ∷ []))

-- if `letter` is put into a cable that has only the letter `end`, these two are the cable's letters
after_end : (letter end : ℕ) → IsPermutation (letter ∷ end ∷ [])
    (cable_letters (cable_in_order (Some end) (Some letter)))
after_end letter end =
    IsPermutation-trans (letter ∷ end ∷ []) (end ∷ letter ∷ [])
    (cable_letters (cable_in_order (Some end) (Some letter)))
    (IsPermutation-append_comm (letter ∷ []) (end ∷ [])) (ordered_moves (Some end) (Some letter))

pub with_moves : (letter : ℕ) (one other : Option ℕ) → (is_some one && is_some other) ≡ false
    → IsPermutation (letter ∷ cable_letters (one, other)) (cable_letters (cable_with letter (one, other)))
with_moves letter one other e = grind (arith, after_end)

-- exchanging the first two parts of a list permutes the list
IsPermutation-append_swap : (first letters rest : List ℕ)
    → IsPermutation (first ++ (letters ++ rest)) (letters ++ (first ++ rest))
IsPermutation-append_swap first letters rest =
    rw (← append_assoc first letters rest, ← append_assoc letters first rest)
    (IsPermutation-append_left rest (first ++ letters) (letters ++ first) (IsPermutation-append_comm first letters))

pub set_moves : (out into : List ℕ) (cables : List (Option ℕ × Option ℕ)) (place : ℕ) (cable new : Option ℕ × Option ℕ)
    → slice_get cables place ≡ Some cable
    → IsPermutation (out ++ cable_letters cable) (into ++ cable_letters new)
    → IsPermutation (out ++ letters_in_cables cables) (into ++ letters_in_cables (set cables place new))
set_moves out into [] place cable new here moves = cc
set_moves out into (first ∷ cables) zero cable new here moves =
    let e : first ≡ cable = cc in
    rw (
      e,
      ← append_assoc out (cable_letters cable) (letters_in_cables cables),
      ← append_assoc into (cable_letters new) (letters_in_cables cables),
    )
    (IsPermutation-append_left (letters_in_cables cables) (out ++ cable_letters cable) (into ++ cable_letters new)
    moves)
set_moves out into (first ∷ cables) (suc place) cable new here moves =
    let rest = set_moves out into cables place cable new here moves in
    IsPermutation-trans _ _ _ (IsPermutation-append_swap out (cable_letters first) (letters_in_cables cables))
    (IsPermutation-trans _ _ _ (IsPermutation-append_right (cable_letters first) _ _ rest)
    (IsPermutation-append_swap (cable_letters first) into (letters_in_cables (set cables place new))))

-- ---- the pairs that cables with two letters exchange

abbrev pub pairs_of : List (Option ℕ × Option ℕ) → List (ℕ × ℕ)
pairs_of cables = filter_map (λ cable. option_zip cable.0 cable.1) cables

letters_of_pairs : (cables : List (Option ℕ × Option ℕ))
    → AllByRecursion (λ cable. length (cable_letters cable) ≢ 1) cables
    → letters_in_cables cables ≡ letters_in_pairs (pairs_of cables)
letters_of_pairs [] h = refl
letters_of_pairs (cable ∷ cables) h = grind (arith, letters_of_pairs cables)

pub no_letter_twice : (cables : List (Option ℕ × Option ℕ)) → AreCables cables
    → All (λ cable. length (cable_letters cable) ≢ 1) cables → NoLetterTwice (pairs_of cables)
no_letter_twice cables h whole = grind (arith, letters_of_pairs, recursion_from_All)

-- ---- cables that are the day's cables, in any order

cable_of_pair : (pair : ℕ × ℕ) → cable_of_column (Some pair) ≡ cable_in_order (Some pair.0) (Some pair.1)
cable_of_pair pair = grind (arith, nat_tests, cond_both)

empty_columns : (number : ℕ) → map cable_of_column (replicate number None) ≡ replicate number (None, None)
empty_columns zero = refl
empty_columns (suc number) = ap (λ cables. (None, None) ∷ cables) (empty_columns number)

filled_columns : (pairs : List (ℕ × ℕ)) (number : ℕ)
    → map cable_of_column (map Some pairs ++ replicate number None)
    ≡ map (λ (pair : ℕ × ℕ). cable_in_order (Some pair.0) (Some pair.1)) pairs ++ replicate number (None, None)
filled_columns [] number = empty_columns number
filled_columns (pair ∷ pairs) number = grind (arith, cable_of_pair pair, filled_columns pairs number)

-- the day's cables are the cables for the day's columns
pub cables_by_columns : (pairs : List (ℕ × ℕ)) → map cable_of_column (columns_of pairs) ≡ cables_of pairs
cables_by_columns pairs = filled_columns pairs (13 - length pairs)

pub column_is : (column : Option (ℕ × ℕ)) (letter : ℕ)
    → has_letter (cable_letters (cable_of_column column)) letter ≡ has_letter (column_letters column) letter
column_is column letter = grind (arith, nat_tests, cond_both)

whole_column : (column : Option (ℕ × ℕ)) → length (cable_letters (cable_of_column column)) ≢ 1
whole_column column = grind (arith, cond_both)

pub whole_cables : (cables : List (Option ℕ × Option ℕ)) (pairs : List (ℕ × ℕ)) → IsPermutation cables (cables_of pairs)
    → All (λ cable. length (cable_letters cable) ≢ 1) cables
whole_cables cables pairs order =
    let whole = λ (cable : Option ℕ × Option ℕ). length (cable_letters cable) ≢ 1 in
    All-permutation whole (cables_of pairs) cables (IsPermutation-sym cables (cables_of pairs) order)
    (subst (All whole) (cables_by_columns pairs)
    (All-map whole cable_of_column (columns_of pairs) (λ k d below. whole_column (get_or (columns_of pairs) k d))))

-- whether `x` and `y` are the letters of the pair, in either order
abbrev is_pair : ℕ → ℕ → ℕ × ℕ → Bool
is_pair x y pair = (nat_eq pair.0 x && nat_eq pair.1 y) || (nat_eq pair.0 y && nat_eq pair.1 x)

abbrev joins : ℕ → ℕ → Option ℕ × Option ℕ → Bool
joins x y cable = option_map_or (is_pair x y) (option_zip cable.0 cable.1) false

pairs_test : (pairs : List (ℕ × ℕ)) (x y : ℕ)
    → plugs.HavePairOf pairs x y ↔ (list_any (is_pair x y) pairs ≡ true)
pairs_test pairs x y = grind (arith, nat_tests, list_any_at, Any-from_list_any)

pairs_of_test : (cables : List (Option ℕ × Option ℕ)) (x y : ℕ)
    → list_any (is_pair x y) (pairs_of cables) ≡ list_any (joins x y) cables
pairs_of_test [] x y = refl
pairs_of_test (cable ∷ cables) x y = grind (arith, pairs_of_test cables x y)

empty_join : (number x y : ℕ) → list_any (joins x y) (map cable_of_column (replicate number None)) ≡ false
empty_join zero x y = refl
empty_join (suc number) x y = empty_join number x y

due_test : (pairs : List (ℕ × ℕ)) (number x y : ℕ)
    → list_any (joins x y) (map cable_of_column (map Some pairs ++ replicate number None))
    ≡ list_any (is_pair x y) pairs
due_test [] number x y = empty_join number x y
due_test (pair ∷ pairs) number x y = grind (arith, nat_tests, due_test pairs number x y)

pub pairs_joined : (cables : List (Option ℕ × Option ℕ)) (pairs : List (ℕ × ℕ)) → IsPermutation cables (cables_of pairs)
    → (x y : ℕ) → plugs.HavePairOf (pairs_of cables) x y ↔ plugs.HavePairOf pairs x y
pairs_joined cables pairs order x y =
    let same : list_any (is_pair x y) (pairs_of cables) ≡ list_any (is_pair x y) pairs = pairs_of_test cables x y
    ∙ list_any-IsPermutation (joins x y) cables (cables_of pairs) order
    ∙ ap (list_any (joins x y)) (sym (cables_by_columns pairs)) ∙ due_test pairs (13 - length pairs) x y in
    grind (arith, pairs_test)
