-- Two lists have the same letters, each as often, exactly if one is a permutation of the other. So a day has a group
-- exactly if one of the day's groups has the same letters.
use Rattle.std.proofs.Common.{◌≡◌, ◌↔◌, ◌<◌, ◌+◌, ◌==◌, ◌++◌, ◌∷◌, [], ℕ, zero, suc, Bool, true, false, List, arith, ap, sym}
use Rattle.std.proofs.Common.{refl, subst, IsTrue, IsPermutation, eq-eqb}
use Rattle.std.specs.List.{list_all, list_any}
use Rattle.std.proofs.lemmas.List.Folds.{Any-from_list_any, list_all-append, list_any-from_Any}
use Rattle.std.proofs.lemmas.List.Sorted.{IsPermutation-cons, IsPermutation-middle, IsPermutation-refl}
use Rattle.std.proofs.lemmas.List.Sorted.{IsPermutation-sym, IsPermutation-trans, sum_by-IsPermutation}
use Rattle.std.proofs.lemmas.List.Sums.{sum_by-append, sum_by-cons}
use Rattle.std.proofs.lemmas.List.Sums.{list_all-from_AllPass}
use Rattle.std.specs.Prelude.{if◌then◌else◌}
use Rattle.kd_state.specs.SheetDay.{AreADaysGroup, AreOneOfGroups, Day, Pin, Rotor}
use Rattle.kd_look.specs.GroupDays.{are_reordered, has_group, times}

-- 1 if the letters are the same, otherwise 0
abbrev one_if_same : ℕ → ℕ → ℕ
one_if_same letter other = if other == letter then 1 else 0

times-cons : (letter first : ℕ) (rest : List ℕ) → times letter (first ∷ rest) ≡ one_if_same letter first + times letter rest
times-cons letter first rest = sum_by-cons (one_if_same letter) first rest

times-append : (letter : ℕ) (front back : List ℕ) → times letter (front ++ back) ≡ times letter front + times letter back
times-append letter front back = sum_by-append (one_if_same letter) front back

one_if_same-self : (letter : ℕ) → one_if_same letter letter ≡ 1
one_if_same-self letter = rw (eq-eqb letter letter refl) refl

-- the list has `letter` between `front` and `back`
record IsSplit (letter : ℕ) (letters : List ℕ) : Type 0 where
  front : List ℕ
  back : List ℕ
  whole : letters ≡ front ++ letter ∷ back

split_first : (letter first : ℕ) (rest : List ℕ) (same : Bool) → (first == letter) ≡ same
    → 0 < times letter (first ∷ rest) → (0 < times letter rest → IsSplit letter rest) → IsSplit letter (first ∷ rest)
split_first letter first rest true is some later =
    record { front = []; back = rest; whole = ap (λ x. x ∷ rest) (grind arith) }
split_first letter first rest false is some later =
    let there = later (grind arith) in
    record { front = first ∷ there.front; back = there.back; whole = ap (λ xs. first ∷ xs) there.whole }

-- a letter that stands in a list splits the list
split : (letter : ℕ) (letters : List ℕ) → 0 < times letter letters → IsSplit letter letters
split letter [] some = absurd (omega (arith, some))
split letter (first ∷ rest) some = split_first letter first rest (first == letter) refl some (split letter rest)

-- lists that have each number as often are permutations
permutes : (xs ys : List ℕ) → ((letter : ℕ) → times letter xs ≡ times letter ys) → IsPermutation xs ys
permutes [] [] same = IsPermutation-refl []
permutes [] (y ∷ ys) same = absurd (omega (arith, same y, times-cons y y ys, one_if_same-self y))
permutes (x ∷ xs) ys same =
    let there = split x ys (omega (arith, same x, times-cons x x xs, one_if_same-self x)) in
    let rest : (letter : ℕ) → times letter xs ≡ times letter (there.front ++ there.back) = λ letter.
    omega (
      arith,
      same letter,
      ap (times letter) there.whole,
      times-cons letter x xs,
      times-cons letter x there.back,
      times-append letter there.front there.back,
      times-append letter there.front (x ∷ there.back),
    ) in
    subst (λ zs. IsPermutation (x ∷ xs) zs) (sym there.whole)
    (IsPermutation-trans (x ∷ xs) (x ∷ there.front ++ there.back) _
    (IsPermutation-cons x xs _ (permutes xs (there.front ++ there.back) rest))
    (IsPermutation-sym _ _ (IsPermutation-middle there.front x there.back)))

-- a test that each letter passes, passes at a letter that stands in the list
passes : (test : ℕ → Bool) (letter : ℕ) (letters : List ℕ) → list_all test letters ≡ true → 0 < times letter letters
    → test letter ≡ true
passes test letter letters all some =
    let there = split letter letters some in
    let whole = list_all-append test there.front (letter ∷ there.back) in
    let same = ap (list_all test) there.whole in
    grind (arith, all, whole, same)

-- two numbers are the same if they are the same as soon as one of them isn't 0
same_if_some : (one other : ℕ) → (0 < one → (one == other) ≡ true) → (0 < other → (one == other) ≡ true) → one ≡ other
same_if_some zero zero first second = refl
same_if_some zero (suc other) first second = let is = second (omega arith) in grind (arith, is)
same_if_some (suc one) other first second = let is = first (omega arith) in grind (arith, is)

-- as often as each letter of both, so each number
each : (xs ys : List ℕ) → are_reordered xs ys ≡ true → (letter : ℕ) → times letter xs ≡ times letter ys
each xs ys same letter =
    let test = λ (one : ℕ). times one xs == times one ys in
    let both = list_all-append test xs ys in
    let first = passes test letter xs (grind (arith, both, same)) in
    let second = passes test letter ys (grind (arith, both, same)) in
    same_if_some (times letter xs) (times letter ys) first second

are_reordered_tells : (xs ys : List ℕ) → IsTrue (are_reordered xs ys) ↔ IsPermutation xs ys
are_reordered_tells xs ys = (
  λ same. permutes xs ys (each xs ys same),
  λ moved.
      list_all-from_AllPass (λ letter. times letter xs == times letter ys) (xs ++ ys)
      (λ k d below. eq-eqb _ _ (sym (sum_by-IsPermutation (one_if_same _) xs ys moved))),
)

any_permuted : (groups : List (List ℕ)) (letters : List ℕ)
    → IsTrue (list_any (λ group. are_reordered group letters) groups) ↔ AreOneOfGroups groups letters
any_permuted groups letters = (
  λ is.
      let found = Any-from_list_any (λ group. are_reordered group letters) groups is in
      (found.0, found.1, found.2, found.3, (are_reordered_tells found.1 letters).0 found.4),
  λ found.
      list_any-from_Any (λ group. are_reordered group letters) groups
      (found.0, found.1, found.2, found.3, (are_reordered_tells found.1 letters).1 found.4),
)

same_test : (one other : Bool) (P : Type 0) → IsTrue one ↔ P → IsTrue other ↔ P → one ≡ other
same_test true other P first second = sym (second.1 (first.0 refl))
same_test false true P first second = first.1 (second.0 refl)
same_test false false P first second = refl

none_false : (test : Bool) → IsTrue test ↔ ⊥ → test ≡ false
none_false true is = absurd (is.0 refl)
none_false false is = refl

-- a test for the letters of a group, in any order
pub has_group_tells : (letters : List ℕ) (day : Day) (test : Bool) → IsTrue test ↔ AreADaysGroup day letters
    → test ≡ has_group letters day
has_group_tells letters (Rotor values) test is =
    same_test test _ (AreOneOfGroups values.groups letters) is (any_permuted values.groups letters)
has_group_tells letters (Pin values) test is = none_false test is
