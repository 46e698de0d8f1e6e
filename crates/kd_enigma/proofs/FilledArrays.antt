-- Arrays that are filled by calls of a closure.
use Rattle.std.proofs.Common.{◌≡◌, ℕ, zero, suc, ◌+◌, ◌<◌, ◌≤◌, List, get_or, inl, inr, refl, sym, subst, arith}
use Rattle.std.{proofs.lemmas.Bool.cases_eq, specs.Array.IsFromFnResult, specs.Array.IsFromFnResultFrom}
use denote.Param.Members.{Mut, Called}

-- If each call leaves the closure as it was and returns a value that satisfies `P` at its place, each element of
-- the array satisfies `P` at its place.
module _ {F B : Type 0} (g : Mut F (ℕ × Unit {0}) B) (f : F) (size : ℕ) (P : ℕ → B → Type 0)
    (step : (i : ℕ) (y : B) (q : F) → i < size → Called g f (i, tt) y q → (q ≡ f) × P i y) where
  made_from : (p : F) (ys : List B) (i n : ℕ) → p ≡ f → i + n ≤ size → IsFromFnResultFrom g p ys i n → (k : ℕ) (e : B)
      → i ≤ k → k < i + n → P k (get_or ys k e)
  made_from p ys i zero same fits made k e low high = absurd (omega arith)
  made_from p ys i (suc n) same fits made k e low high =
      let said = step i made.1 made.0 (omega arith) (subst (λ p. Called g p (i, tt) made.1 made.0) same made.3) in
      elim (cases_eq k i) [
        | inl is ↦ subst (λ j. P j (get_or ys j e)) (sym is) (subst (P i) (sym (made.2.1 e)) said.1)
        | inr later ↦ made_from made.0 ys (i + 1) n said.0 (omega arith) made.4 k e (omega arith) (omega arith)
      ]

pub each_made : {F B : Type 0} {g : Mut F (ℕ × Unit {0}) B} {f : F} {ys : List B} {size : ℕ}
    → IsFromFnResult g f ys size → (P : ℕ → B → Type 0)
    → ((i : ℕ) (y : B) (q : F) → i < size → Called g f (i, tt) y q → (q ≡ f) × P i y) → (k : ℕ) (e : B) → k < size
    → P k (get_or ys k e)
each_made {g = g} {f = f} {ys = ys} {size = size} made P step k e lt =
    made_from g f size P step f ys 0 size refl (omega arith) made.each k e (omega arith) (omega arith)
