-- A text that a test chooses, and the first item of a list.
use Rattle.std.proofs.Common.{◌≡◌, ℕ, ◌-◌, ◌<◌, ◌≤◌, Bool, true, false, nat_eq, List, [], ◌∷◌, Option, None, Some, arith, refl}
use Rattle.std.proofs.Common.{drop, get_or, length, take}
use Rattle.std.proofs.lemmas.Grind.{common_steps}
use Rattle.std.specs.List.{list_all}
use Rattle.std.specs.Option.{option_eq}
use Rattle.std.specs.Prelude.{if◌then◌else◌, nat_lt}
use Rattle.kd_pictures.specs.Drawing.{Draws}
use Rattle.kd_pictures.specs.Wheels.{is_same_letter}

pub if_true : {W : Type 0} {taken : W → Option (List ℕ)} {failed : W → Bool} {old new : W} {test : Bool} (a b : List ℕ)
    → test ≡ true → Draws taken failed old new a → Draws taken failed old new (if test then a else b)
if_true a b is draws = rw is draws

pub if_false : {W : Type 0} {taken : W → Option (List ℕ)} {failed : W → Bool} {old new : W} {test : Bool}
    (a b : List ℕ) → test ≡ false → Draws taken failed old new b → Draws taken failed old new (if test then a else b)
if_false a b is draws = rw is draws

pub same_letter : (other : Option ℕ) (letter : ℕ) → is_same_letter letter other ≡ option_eq nat_eq other (Some letter)
same_letter None letter = refl
same_letter (Some x) letter = grind arith

-- ---- Lists.

pub is_empty : {X : Type 0} (xs : List X) → length xs < 1 → xs ≡ []
is_empty [] none = refl
is_empty (x ∷ xs) none = absurd (omega (arith, none))

pub first_letter : (xs : List ℕ) → list_all (λ letter. nat_lt letter 26) xs ≡ true → 1 ≤ length xs → get_or xs 0 0 < 26
first_letter [] all some = absurd (omega (arith, some))
first_letter (x ∷ xs) all some = grind (arith, all)

-- The first item of a list that isn't empty, and the other items.
pub split_first : (xs : List ℕ) → 1 ≤ length xs → xs ≡ get_or xs 0 0 ∷ take (length xs - 1) (drop 1 xs)
split_first [] some = absurd (omega (arith, some))
split_first (x ∷ xs) some = grind (arith, common_steps)
