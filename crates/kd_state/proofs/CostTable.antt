-- Lemmas on costs: counting letters, the columns of a day, and the standings of a row.
use Rattle.kd_state.proofs.Prelude.{All, AllByRecursion, AllPass-from_list_all, Bool, IsBefore, IsDistinct, IsReading}
use Rattle.kd_state.proofs.Prelude.{List, None, Option, Place, Some, [], alphabet, ap, arith, bar_cost, cable_cost}
use Rattle.kd_state.proofs.Prelude.{cable_letters, cases_eq, column_letters, columns_of, common_steps, count_by}
use Rattle.kd_state.proofs.Prelude.{exactly_one, find, get_or, has_letter, inl, inr, length, length-append}
use Rattle.kd_state.proofs.Prelude.{length-map, length-replicate, letters_in_pairs, ltb-true, map, nat_eq, nat_tests}
use Rattle.kd_state.proofs.Prelude.{option_to_list, range_with_len, recursion_from_All, refl, rules, slice_get, suc}
use Rattle.kd_state.proofs.Prelude.{sum_by-cons, sum_by_more, take, true, unwrap_or, zero, ℕ, ◌&&◌, reading_of}
use Rattle.std.specs.Prelude.{slice_index_or}
use Rattle.kd_tables.proofs.DistinctLetters.{has_letter-AllByRecursion}
use Rattle.kd_state.proofs.{Prelude.{◌++◌, ◌+◌, ◌-◌, ◌<◌, ◌||◌, ◌∙◌, ◌∷◌, ◌≡◌, ◌≢◌, ◌≤◌}}
use Rattle.kd_state.proofs.SortedAlike.{count_by-cons, one_if}
use Rattle.kd_state.specs.Costs.{standing_across, lugs_moved, nearest_standing, place_of_pin_wheel, standings_as}
use Rattle.kd_tables.specs.{Places.{place_rank, standings}, declared.place.Place.TheVariants.{ZeroLeft, ZeroRight}}
use Rattle.std.{proofs.Common.{cond, fold, min, nat_lt, replicate, sum_by}, specs.Prelude.nat_le}
use Rattle.std.proofs.lemmas.List.{Elements.{All-filter, filter_passes}, FromFn.get_or-range_with_len}

-- ---- counting the letters of the alphabet that are in a list

-- a number is in a range of numbers at most once, and not at all if it is below the range
count_by-range_at_most : (letter first number : ℕ)
    → count_by (λ other. nat_eq letter other) (range_with_len first number) ≤ one_if (nat_le first letter)
count_by-range_at_most letter first zero = omega arith
count_by-range_at_most letter first (suc number) =
    grind (arith, common_steps, count_by-range_at_most letter (first + 1) number, count_by-cons)

pub counted_more : (p : ℕ → Bool) (index cost more : ℕ) → index < 26 → cost ≡ count_by p (take index alphabet)
    → more ≡ one_if (p index)
    → cost + more ≡ count_by p (take (index + 1) alphabet)
counted_more p index cost more below e d =
    let step = sum_by_more (λ x. one_if (p x)) alphabet index 0 below in
    let there : get_or alphabet index 0 ≡ index = get_or-range_with_len 0 26 index 0 below ∙ omega arith in
    omega (arith, step, e, d, ap (λ x. one_if (p x)) there)

-- a test that combines two tests by `f` counts at most as many elements as the two tests count together
joined_counts : (f : Bool → Bool → Bool) → ((a b : Bool) → one_if (f a b) ≤ one_if a + one_if b)
    → (p q : ℕ → Bool) (xs : List ℕ) → count_by (λ x. f (p x) (q x)) xs ≤ count_by p xs + count_by q xs
joined_counts f fits p q [] = omega arith
joined_counts f fits p q (x ∷ xs) = search (rules, count_by-cons, p, q, fits, joined_counts f fits p q xs)

differ_fits : (a b : Bool) → one_if (exactly_one a b) ≤ one_if a + one_if b
differ_fits a b = grind arith

or_fits : (a b : Bool) → one_if (a || b) ≤ one_if a + one_if b
or_fits a b = grind arith

counted_once : (letter first number : ℕ)
    → count_by (λ other. nat_eq letter other) (range_with_len first number) ≤ 1
counted_once letter first number = grind (arith, count_by-range_at_most letter first number)

one_letter_more : (letter : ℕ) (letters xs : List ℕ) → count_by (λ other. nat_eq letter other) xs ≤ 1
    → count_by (has_letter letters) xs ≤ length letters
    → count_by (has_letter (letter ∷ letters)) xs ≤ suc (length letters)
one_letter_more letter letters xs once rest =
    let joined = joined_counts (λ a b. a || b) or_fits (λ other. nat_eq letter other) (has_letter letters) xs in
    omega (arith, joined, once, rest)

-- a list has at most as many letters of the alphabet as it has elements
count_by-has_letter : (letters : List ℕ) → count_by (has_letter letters) alphabet ≤ length letters
count_by-has_letter [] = omega arith
count_by-has_letter (letter ∷ letters) =
    one_letter_more letter letters alphabet (counted_once letter 0 26) (count_by-has_letter letters)

-- the letters are all different and below 26
pub record AreProper (letters : List ℕ) : Type 0 where
  pub apart : IsDistinct nat_eq letters
  pub within : AllByRecursion (λ x. x < 26) letters

pub AreProper-distinct : (letters : List ℕ) → IsDistinct nat_eq letters → All (λ x. x < 26) letters → AreProper letters
AreProper-distinct letters apart within = record
    { apart = apart; within = recursion_from_All (λ x. x < 26) letters within }

pub cable_parts : (cable : Option ℕ × Option ℕ) (letters : List ℕ) → AreProper (cable_letters cable ++ letters)
    → AreProper (cable_letters cable) × AreProper letters
unfolding IsDistinct
cable_parts cable letters h = grind arith

pub pair_proper : (pairs : List (ℕ × ℕ)) (k : ℕ) → AreProper (letters_in_pairs pairs)
    → AreProper (column_letters (slice_get pairs k))
unfolding IsDistinct
pair_proper [] k h = h
pair_proper (pair ∷ pairs) k h = grind (arith, pair_proper pairs)

pub sums_add : {X : Type 0} (f g h : X → ℕ) → ((x : X) → f x + g x ≡ h x) → (xs : List X)
    → sum_by f xs + sum_by g xs ≡ sum_by h xs
sums_add f g h e [] = refl
sums_add f g h e (x ∷ xs) = simp sum_by-cons (omega (arith, e x, sums_add f g h e xs))

-- how many numbers of a range equal `x` and pass `p`: one if `x` is in the range and passes, otherwise none
once_among : (p : ℕ → Bool) (x first number : ℕ) → count_by (λ y. nat_eq x y && p y) (range_with_len first number)
    ≡ cond (nat_le first x && (nat_lt x (first + number) && p x)) 1 0
once_among p x first zero = grind (arith, nat_tests)
once_among p x first (suc number) =
    let more = count_by-cons (λ y. nat_eq x y && p y) first (range_with_len (first + 1) number) in
    grind (arith, nat_tests, more, once_among p x (first + 1) number)

pub counted_among : (p : ℕ → Bool) (xs : List ℕ) → AreProper xs
    → count_by (λ y. has_letter xs y && p y) alphabet ≡ count_by p xs
unfolding IsDistinct
counted_among p [] h = refl
counted_among p (x ∷ xs) h =
    let none = (has_letter-AllByRecursion xs x).1 h.apart.0 in
    let first : count_by (λ y. nat_eq x y && p y) alphabet ≡ one_if (p x) =
    once_among p x 0 26 ∙ grind (arith, nat_tests, h.within.0) in
    let rest = counted_among p xs (record { apart = h.apart.1; within = h.within.1 }) in
    let both = sums_add (λ y. one_if (nat_eq x y && p y)) (λ y. one_if (has_letter xs y && p y))
    (λ y. one_if ((nat_eq x y || has_letter xs y) && p y)) (λ y. grind (arith, nat_tests)) alphabet in
    omega (arith, first, rest, both, count_by-cons p x xs)

pub at_most_four : (cable : Option ℕ × Option ℕ) (column : Option (ℕ × ℕ)) → cable_cost cable column ≤ 4
at_most_four cable column = grind (arith, joined_counts, differ_fits, count_by-has_letter)

-- ---- the columns: first a day's pairs, then columns without a pair

get_or-replicate_None : (number place : ℕ) → get_or (replicate {A = Option (ℕ × ℕ)} number None) place None ≡ None
get_or-replicate_None zero place = refl
get_or-replicate_None (suc number) place = grind (arith, common_steps, get_or-replicate_None number)

get_or-columns : (pairs : List (ℕ × ℕ)) (number place : ℕ)
    → get_or (map Some pairs ++ replicate number None) place None ≡ slice_get pairs place
get_or-columns [] number place = get_or-replicate_None number place
get_or-columns (pair ∷ pairs) number place = grind (arith, get_or-columns pairs number)

pub columns_are_the_pairs : (pairs : List (ℕ × ℕ)) (place : ℕ)
    → slice_index_or (columns_of pairs) place None ≡ slice_get pairs place
columns_are_the_pairs pairs place = get_or-columns pairs (13 - length pairs) place

pub thirteen_columns : (pairs : List (ℕ × ℕ)) → length pairs ≤ 13 → length (columns_of pairs) ≡ 13
thirteen_columns pairs few = simp (length-append, length-map, length-replicate) (omega arith)

-- ---- the standings that read as each row

abbrev pub reads_as_row : ℕ × ℕ → Place × Place → Bool
reads_as_row row standing =
    let reading = reading_of standing in nat_eq reading.0 row.0 && nat_eq reading.1 row.1

pub no_zero : (row : ℕ × ℕ) → IsReading row → row.0 ≢ 0
    → standings_as row ≡ standing_across (place_of_pin_wheel row.0) (place_of_pin_wheel row.1) ∷ []
unfolding standings_as
no_zero (suc zero, suc (suc (suc (suc (suc (suc zero)))))) reading some = refl
no_zero (suc (suc zero), suc (suc (suc (suc (suc (suc zero)))))) reading some = refl
no_zero (suc (suc (suc zero)), suc (suc (suc (suc (suc (suc zero)))))) reading some = refl
no_zero (suc (suc (suc (suc zero))), suc (suc (suc (suc (suc (suc zero)))))) reading some = refl
no_zero (suc (suc (suc (suc (suc zero)))), suc (suc (suc (suc (suc (suc zero)))))) reading some = refl
no_zero row reading some = first_of (search rules, omega arith)

pub standings_of_zeros : (row : ℕ × ℕ) → row.0 ≤ row.1 → row.1 ≡ 0
    → standings_as row ≡ standing_across ZeroLeft ZeroRight ∷ []
unfolding standings_as
standings_of_zeros (zero, zero) ordered none = refl
standings_of_zeros row ordered none = absurd (omega arith)

pub one_zero : (row : ℕ × ℕ) → row.0 ≡ 0 → 1 ≤ row.1 → row.1 ≤ 6
    → standings_as row ≡ standing_across ZeroLeft (place_of_pin_wheel row.1)
    ∷ standing_across (place_of_pin_wheel row.1) ZeroRight ∷ []
unfolding standings_as
one_zero (zero, suc (suc (suc (suc (suc (suc zero)))))) none first last = refl
one_zero row none first last = first_of (search rules, omega arith)

-- ---- the nearest standing: it reads as the row, and no standing of the row costs less

pub at_most_two : (bar standing : Place × Place) → lugs_moved bar standing ≤ 2
at_most_two bar standing = grind (arith, common_steps)

least_at_most : (n : ℕ) (xs : List ℕ) → fold min n xs ≤ n
least_at_most n [] = omega arith
least_at_most n (x ∷ xs) = omega (arith, least_at_most (min n x) xs)

pub bar_cost_at_most : (bar : Place × Place) (row : ℕ × ℕ) → bar_cost bar row ≤ 2
bar_cost_at_most bar row = omega (arith, least_at_most 2 (map (lugs_moved bar) (standings_as row)))

-- the left lug is left of the right lug, and the standing reads as the row
abbrev pub IsStandingOfRow : ℕ × ℕ → Place × Place → Type 0
IsStandingOfRow row x = IsBefore x.0 x.1 × (reads_as_row row x ≡ true)

of_row : (row : ℕ × ℕ) → All (IsStandingOfRow row) (standings_as row)
unfolding standings_as
of_row row k d lt =
    let before = λ (x : Place × Place). nat_lt (place_rank x.0) (place_rank x.1) in
    let all = AllPass-from_list_all before standings refl in (
      ltb-true _ _ (All-filter (reads_as_row row) (λ x. before x ≡ true) standings all k d lt),
      filter_passes (reads_as_row row) standings k d lt,
    )

-- of one or two standings, the search finds one that costs the least; it has each property `P` that all of
-- them have
nearest-found : (bar x : Place × Place) (more : Option (Place × Place)) (xs : List (Place × Place))
    (P : Place × Place → Type 0)
    → xs ≡ x ∷ option_to_list more → AllByRecursion P xs
    → let least = fold min 2 (map (lugs_moved bar) xs) in
    let target = unwrap_or (find (λ y. nat_eq (lugs_moved bar y) least) xs) bar in
    P target × (lugs_moved bar target ≡ least)
nearest-found bar x None xs P e h = grind (arith, nat_tests, at_most_two bar x)
nearest-found bar x (Some y) xs P e h = grind (arith, nat_tests, at_most_two bar x, at_most_two bar y)

pub nearest_is : (bar : Place × Place) (row : ℕ × ℕ) → IsReading row
    → let target = unwrap_or (nearest_standing bar row) bar in
    IsStandingOfRow row target × (lugs_moved bar target ≡ bar_cost bar row)
nearest_is bar row h =
    let all = recursion_from_All (IsStandingOfRow row) (standings_as row) (of_row row) in
    elim (cases_eq row.1 0) [
      | inl e ↦ nearest-found bar _ None (standings_as row) (IsStandingOfRow row)
          (standings_of_zeros row h.ordered e) all
      | inr some ↦ elim (cases_eq row.0 0) [
        | inl e ↦ nearest-found bar _ (Some _) (standings_as row) (IsStandingOfRow row)
            (one_zero row e (omega arith) h.within) all
        | inr other ↦ nearest-found bar _ None (standings_as row) (IsStandingOfRow row) (no_zero row h other) all
      ]
    ]
