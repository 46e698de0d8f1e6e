-- The first group of a body that hasn't five letters.
use Rattle.std.proofs.Common.{◌≡◌, ◌≢◌, ◌∙◌, ℕ, ◌+◌, ◌<◌, ◌≤◌, ◌%◌, ◌⊎◌, inl, inr, Bool, true, false, List, length}
use Rattle.std.proofs.Common.{arith, ap, cond, get_or, if◌then◌else◌, is_some, sym, take, subst}
use Rattle.std.proofs.lemmas.Bool.{cases_eq, false≢true}
use Rattle.std.proofs.lemmas.List.{take_more}
use Rattle.kd_lost.specs.Lost.{received_letter}
use Rattle.kd_lost.specs.ShortGroup.{EndsShortGroup}
use Rattle.kd_lost.specs.ShortLine.{letters_on}
use Rattle.kd_lost.proofs.WrongSigns.{letters_pushed}

counted_on : (some : Bool) (n letters : ℕ) → letters ≡ n → (if some then letters + 1 else letters) ≡ n + cond some 1 0
counted_on true n letters is = omega (arith, is)
counted_on false n letters is = omega (arith, is)

-- the letters up to one more byte
pub letters_on_more : (body : List ℕ) (i letters n : ℕ) → i < length body → letters ≡ letters_on (take i body)
    → n ≡ (if is_some (received_letter (get_or body i 0)) then letters + 1 else letters)
    → n ≡ letters_on (take (i + 1) body)
letters_on_more body i letters n inside is more =
    more ∙ counted_on (is_some (received_letter (get_or body i 0))) (letters_on (take i body)) letters is
    ∙ sym (ap letters_on (take_more body i 0 inside) ∙ letters_pushed (take i body) (get_or body i 0))

up_to_cases : (body : List ℕ) (i earlier : ℕ) → (earlier ≡ i) ⊎ (earlier ≢ i) → earlier < i + 1
    → ((place : ℕ) → place < i → ¬ (EndsShortGroup body place)) → ¬ (EndsShortGroup body i)
    → ¬ (EndsShortGroup body earlier)
up_to_cases body i earlier (inl is) less before here = λ ends. here (subst (EndsShortGroup body) is ends)
up_to_cases body i earlier (inr other) less before here = before earlier (omega (arith, other, less))

-- no short group ends up to one more place
pub none_up_to : (body : List ℕ) (i : ℕ) → ((place : ℕ) → place < i → ¬ (EndsShortGroup body place))
    → ¬ (EndsShortGroup body i) → (earlier : ℕ) → earlier < i + 1 → ¬ (EndsShortGroup body earlier)
none_up_to body i before here earlier less = up_to_cases body i earlier (cases_eq earlier i) less before here

-- no short group ends in all of the body
pub none_at_all : (body : List ℕ) (i : ℕ) → length body ≤ i
    → ((place : ℕ) → place < i → ¬ (EndsShortGroup body place)) → (place : ℕ) → ¬ (EndsShortGroup body place)
none_at_all body i past before place = λ ends. before place (omega (arith, past, ends.inside)) ends

pub few_counted : (some : Bool) (i letters n : ℕ) → letters ≤ i → n ≡ (if some then letters + 1 else letters) → n ≤ i + 1
few_counted true i letters n few is = omega (arith, few, is)
few_counted false i letters n few is = omega (arith, few, is)

-- no short group ends after whole groups, after all letters, or at a letter
pub not_after_whole : (body : List ℕ) (i letters : ℕ) → letters ≡ letters_on (take i body) → letters % 5 ≡ 0
    → ¬ (EndsShortGroup body i)
not_after_whole body i letters is whole = λ ends. ends.short (ap (λ n. n % 5) (sym is) ∙ whole)

pub not_at_end : (body : List ℕ) (i letters : ℕ) → letters ≡ letters_on (take i body) → letters_on body ≤ letters
    → ¬ (EndsShortGroup body i)
not_at_end body i letters is past = λ ends. omega (arith, is, past, ends.before_others)

pub not_at_letter : (body : List ℕ) (i : ℕ) → is_some (received_letter (get_or body i 0)) ≡ true
    → ¬ (EndsShortGroup body i)
not_at_letter body i some = λ ends. absurd (false≢true (sym (ap is_some ends.ends) ∙ some))
