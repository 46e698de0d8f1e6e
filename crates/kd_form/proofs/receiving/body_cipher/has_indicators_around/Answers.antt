use Rattle.kd_form.proofs.Prelude.{arith, nat_tests, ℕ, List, Bool, IsTrue, ◌≡◌, ◌==◌, ◌-◌, take, drop, length}
use Rattle.kd_form.proofs.Prelude.{◌≤◌, get_or, take_all, length-drop, refl, sym, ◌∙◌, false≢true}
use Rattle.kd_form.proofs.Prelude.{HasIndicatorsAround}
use Rattle.std.specs.Prelude.{◌↔◌}
use Rattle.std.proofs.lemmas.List.{get_or_read}
use Rattle.std.proofs.lemmas.{Bool.{Decides.Decides-eqb}, Slice.Eq.slice_eq-Decides}
use Rattle.kd_form.proofs.receiving.body_cipher.has_indicators_around.Goals as goal

-- the last ten letters are the letters from the tenth last on
last_ten : (letters : List ℕ) → take (length letters - (length letters - 10)) (drop (length letters - 10) letters)
    ≡ drop (length letters - 10) letters
last_ten letters =
    take_all (length letters - (length letters - 10)) (drop (length letters - 10) letters)
    (omega (arith, length-drop {A = ℕ}))

-- if the last ten letters repeat the first ten, only the first two letters are left to compare
around_if_twice : (letters : List ℕ) (first second : ℕ) (same : Bool) → 20 ≤ length letters
    → first ≡ get_or letters 0 first → second ≡ get_or letters 1 second → same ≡ (first == second)
    → take 10 letters ≡ drop (length letters - 10) letters → IsTrue same ↔ HasIndicatorsAround letters
around_if_twice letters first second same long is also compared again =
    let reads = get_or_read letters 0 first (omega arith) is 0 in
    let reads_also = get_or_read letters 1 second (omega arith) also 0 in
    grind (arith, nat_tests, reads, reads_also)

pub returns-then-eq : goal.returns-then-eq
returns-then-eq c =
    let letters = c.args.letters.now in
    let equal = slice_eq-Decides Decides-eqb (take 10 letters) (drop (length letters - 10) letters) _ refl in
    around_if_twice letters _ _ _ c.requires c.index-letters-0.is c.index-letters-1.is c.eq-then-eq.ensures
    (equal.0 (sym (rw (last_ten letters) at c.eq.ensures) ∙ c.if-eq.true))

pub returns-else-eq : goal.returns-else-eq
returns-else-eq c =
    let letters = c.args.letters.now in
    let equal = slice_eq-Decides Decides-eqb (take 10 letters) (drop (length letters - 10) letters) _ refl in (
      λ yes. absurd (false≢true (sym c.if-eq.false ∙ yes)),
      λ around.
          absurd (false≢true (sym c.if-eq.false ∙ rw (last_ten letters) at c.eq.ensures ∙ equal.1 around.again)),
    )
