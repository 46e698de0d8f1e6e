-- Days that are numbered one after another, and items that are all alike.
use Rattle.std.proofs.Common.{◌≡◌, ◌+◌, ◌-◌, ◌≤◌, ◌∷◌, ℕ, map, zero, suc, refl, ap, arith}
use Rattle.std.specs.Prelude.{replicate}
use Rattle.std.specs.List.{range_with_len}

pub range_with_len-first : (number count : ℕ) → 1 ≤ count
    → range_with_len number count ≡ number ∷ range_with_len (number + 1) (count - 1)
range_with_len-first number zero some = absurd (omega arith)
range_with_len-first number (suc count) some =
    let same : count ≡ suc count - 1 = omega arith in ap (λ left. number ∷ range_with_len (number + 1) left) same

pub map-replicate : {A B : Type 0} (f : A → B) (x : A) (count : ℕ) → map f (replicate count x) ≡ replicate count (f x)
map-replicate f x zero = refl
map-replicate f x (suc count) = ap (λ rest. f x ∷ rest) (map-replicate f x count)
