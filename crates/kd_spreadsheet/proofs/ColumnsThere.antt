-- Which columns a table has.
use Rattle.std.proofs.Common.{◌≡◌, Bool, true, List, ◌∷◌}
use Rattle.std.specs.List.{list_all}

pub all_of_row : {A : Type 0} (p : A → Bool) (one two : A) (known cells : List A) (all : Bool) → p one ≡ true
    → p two ≡ true → known ≡ cells → all ≡ list_all p known → all ≡ list_all p (one ∷ two ∷ cells)
all_of_row p one two known cells all first second same is = rw (first, second, ← same) is
