-- Entries of a key sheet, by their numbers.
use Rattle.std.proofs.Common.{◌≡◌, ℕ, suc, List, refl}
use Rattle.std.specs.Prelude.{slice_get}
use Rattle.kd_state.specs.SameParts.{numbered_item}

-- the item with a number is at the place before it
pub numbered_item-suc : {X : Type 0} (xs : List X) (number place : ℕ) → number ≡ suc place
    → numbered_item xs number ≡ slice_get xs place
numbered_item-suc xs number place follows = rw follows refl
