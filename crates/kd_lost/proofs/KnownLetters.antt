-- Letters of which none is lost: the keys in them, and how they are shown.
use Rattle.std.proofs.Common.{All, Any, Bool, true, false, IsTrue, ◌↔◌, ◌≡◌, ◌≢◌, ◌∙◌, ℕ, zero, suc, ◌+◌, ◌<◌, List}
use Rattle.std.proofs.Common.{[], ◌∷◌}
use Rattle.std.proofs.Common.{length, map, drop, take, refl, sym, ap, subst, arith, Option, Some, None, Result, Ok}
use Rattle.std.proofs.Common.{Err, get_or}
use Rattle.std.proofs.Common.{inl, inr, ◌≤◌}
use Rattle.std.proofs.lemmas.List.Elements.{All-cons, All-nil, All-weaker}
use Rattle.kd_state.specs.AnswerRules.{Demands, FindsAlways, GoesOn, HasFault, ThenNext}
use Rattle.kd_lost.specs.declared.damage.PartDamage.{PartDamage}
use Rattle.kd_lost.specs.Lost.{Completes, IsLetterFor, covered}
use Rattle.kd_lost.specs.Copies.{AreKeyLettersAnswer, IsKeyLetterAnswer, IsKeysAnswer}
use Rattle.kd_lost.specs.DamagedText.{IsLostInBoth}
use Rattle.kd_lost.proofs.KeyLetters.{four_hold}

-- -------- steps of a rule that find something

-- a test that holds is passed
pub passed : {F Y : Type 0} {Holds : Type 0} {due : F} {Next : Result Y F → Type 0} {answer : Result Y F} → Holds
    → ThenNext (Demands Holds due) (λ _. Next) answer → Next answer
passed holds (HasFault f is e) = absurd (is.0 tt holds)
passed holds (GoesOn on says next) = next

-- a step without faults finds something
pub found : {F X Y : Type 0} {First : Result X F → Type 0} {Next : X → Result Y F → Type 0} {answer : Result Y F}
    → ((fault : F) → ¬ (First (Err fault))) → ThenNext First Next answer → (x : X) × First (Ok x) × Next x answer
found none (HasFault f is e) = absurd (none f is)
found none (GoesOn x is next) = (x, is, next)

-- a step that always finds something
pub always : {F X : Type 0} {Holds : X → Type 0} (answer : Result X F) → FindsAlways Holds answer
    → (x : X) × (answer ≡ Ok x) × Holds x
always (Ok x) is = (x, refl, is)
always (Err fault) none = absurd none

-- -------- letters of which none is lost

pub known_length : (letters : List ℕ) → length (map Some letters) ≡ length letters
known_length [] = refl
known_length (l ∷ letters) = ap suc (known_length letters)

pub take_known : (n : ℕ) (letters : List ℕ) → take n (map Some letters) ≡ map Some (take n letters)
take_known zero letters = refl
take_known (suc n) [] = refl
take_known (suc n) (l ∷ letters) = ap (λ rest. Some l ∷ rest) (take_known n letters)

pub drop_known : (n : ℕ) (letters : List ℕ) → drop n (map Some letters) ≡ map Some (drop n letters)
drop_known zero letters = refl
drop_known (suc n) [] = refl
drop_known (suc n) (l ∷ letters) = drop_known n letters

pub known_completes : (letters : List ℕ) → Completes (map Some letters) letters
known_completes [] = tt
known_completes (l ∷ letters) = (refl, known_completes letters)

pub none_lost : (letters : List ℕ) → All (λ got. got ≢ None) (map Some letters)
none_lost [] = All-nil (λ got. got ≢ None)
none_lost (l ∷ letters) = All-cons (λ got. got ≢ None) (Some l) (map Some letters) (λ is. cc) (none_lost letters)

pub not_any_lost : (letters : List ℕ) → ¬ (Any (λ got. got ≡ None) (map Some letters))
not_any_lost letters (k, got, inside, is, gone) = none_lost letters k got inside (is ∙ gone)

pub lost_is_false : (lost : Bool) (letters : List ℕ) → IsTrue lost ↔ Any (λ got. got ≡ None) (map Some letters)
    → lost ≡ false
lost_is_false true letters told = absurd (not_any_lost letters (told.0 refl))
lost_is_false false letters told = refl

pub none_lost_in_both : (letters : List ℕ) (end : List (Option ℕ)) → ¬ (IsLostInBoth (map Some letters) end)
none_lost_in_both [] end lost = lost
none_lost_in_both (l ∷ letters) [] lost = lost
none_lost_in_both (l ∷ letters) (other ∷ end) (inl both) = let gone = both.0 in cc
none_lost_in_both (l ∷ letters) (other ∷ end) (inr lost) = none_lost_in_both letters end lost

pub covered_none : (letters text : List ℕ) → length letters ≡ length text
    → covered (map Some letters) text ≡ map Some text
covered_none [] [] same = refl
covered_none [] (x ∷ text) same = absurd (omega (arith, same))
covered_none (l ∷ letters) [] same = absurd (omega (arith, same))
covered_none (l ∷ letters) (x ∷ text) same = ap (λ t. Some x ∷ t) (covered_none letters text (omega (arith, same)))

pub same_known : (letters others : List ℕ) → map Some letters ≡ map Some others → letters ≡ others
same_known [] [] same = refl
same_known [] (y ∷ others) same = absurd (omega (arith, ap length same))
same_known (x ∷ letters) [] same = absurd (omega (arith, ap length same))
same_known (x ∷ letters) (y ∷ others) same =
    let head : Some x ≡ Some y = ap (λ l. get_or l 0 None) same in
    let first : x ≡ y = cc in
    let rest = same_known letters others (ap (drop 1) same) in
    λ i. first i ∷ rest i

-- -------- keys without a lost letter

copy_fits : (x : ℕ) (got : Option ℕ) → got ≡ Some x → IsLetterFor got x
copy_fits x got is = subst (λ o. IsLetterFor o x) (sym is) refl

known_letter : (number x : ℕ) (copies : List (Option ℕ)) (damage : PartDamage) → 0 < length copies
    → All (λ got. got ≡ Some x) copies → ¬ (IsKeyLetterAnswer number copies (Err damage))
known_letter number x copies damage some all (HasFault f is e) =
    is.0 tt (x, All-weaker (λ got. got ≡ Some x) (λ got. IsLetterFor got x) (copy_fits x) copies all)
known_letter number x copies damage some all (GoesOn on says none) =
    none.0 x (0, some, all 0 (Some x) some)

known_letters : (number : ℕ) (letters : List ℕ) (damage : PartDamage)
    → ¬ (AreKeyLettersAnswer number (map Some letters) (map Some letters) (Err damage))
known_letters number [] damage failed = cc
known_letters number (x ∷ letters) damage (HasFault f is e) =
    known_letter number x (Some x ∷ Some x ∷ []) f (omega arith)
    (All-cons (λ got. got ≡ Some x) (Some x) (Some x ∷ []) refl
    (All-cons (λ got. got ≡ Some x) (Some x) [] refl (All-nil (λ got. got ≡ Some x)))) is
known_letters number (x ∷ letters) damage (GoesOn letter says (HasFault f is e)) =
    known_letters (number + 1) letters f is
known_letters number (x ∷ letters) damage (GoesOn letter says (GoesOn more is e)) = cc

-- keys whose first two letters are equal have no fault
pub known_keys : (letters : List ℕ) (damage : PartDamage) → 2 ≤ length letters → get_or letters 0 0 ≡ get_or letters 1 0
    → ¬ (IsKeysAnswer (map Some letters) (map Some letters) (Err damage))
known_keys [] damage some twice failed = omega (arith, some)
known_keys (x ∷ []) damage some twice failed = omega (arith, some)
known_keys (x ∷ y ∷ letters) damage some twice (HasFault f is e) =
    let same : Some y ≡ Some x = ap Some (sym twice) in
    let P = λ (got : Option ℕ). got ≡ Some x in
    known_letter 0 x (Some x ∷ Some y ∷ Some x ∷ Some y ∷ []) f (omega arith)
    (four_hold P (Some x) (Some y) (Some x) (Some y) refl same refl same) is
known_keys (x ∷ y ∷ letters) damage some twice (GoesOn chosen says (HasFault f is e)) = known_letters 1 letters f is
known_keys (x ∷ y ∷ letters) damage some twice (GoesOn chosen says (GoesOn external is e)) = cc
