-- A wheel has each letter at most once, and so at most 26 letters.
use Rattle.{kd_tables.specs.Rings.IsRing, std.{proofs.lemmas.List.Elements.{All-head, All-tail}, specs.List.list_any}}
use Rattle.std.proofs.Common.{All, List, [], arith, eqb, inl, inr, subst, sym, true, ℕ, ◌<◌, ◌∷◌, ◌≡◌, ◌≤◌, ◌⊎◌}
use Rattle.std.proofs.lemmas.{Bool.{eqb-true, false≢true, or_cases}, Map.Steps.length-le_from_distinct_below}

-- A number is below 26 if it is in a list of letters.
list_any-below_26 : (letters : List ℕ) (q : ℕ) → All (λ letter. letter < 26) letters
    → list_any (eqb q) letters ≡ true → q < 26
list_any-below_26 [] q h e = absurd (false≢true e)
list_any-below_26 (letter ∷ letters) q h e =
    at (or_cases (eqb q letter) (list_any (eqb q) letters) e)
    (list_any-below_26 letters q (All-tail (λ l. l < 26) letter letters h))
  where
    at : (eqb q letter ≡ true) ⊎ (list_any (eqb q) letters ≡ true) → (list_any (eqb q) letters ≡ true → q < 26) → q < 26
    at (inl same) _ = subst (λ n. n < 26) (sym (eqb-true q letter same)) (All-head (λ l. l < 26) letter letters h)
    at (inr later) further = further later

pub at_most_all : (size : ℕ) (letters : List ℕ) → IsRing size letters → size ≤ 26
at_most_all size letters ring =
    omega (
      arith,
      ring.full,
      length-le_from_distinct_below letters 26 ring.differ
          (λ q. list_any-below_26 letters q ring.within),
    )
