-- Equal letters at one place become equal letters; and two completions of the same letters are shown alike.
use Rattle.std.proofs.Common.{◌≡◌, ◌∙◌, ℕ, zero, suc, ◌+◌, List, [], ◌∷◌, map, refl, sym, ap, arith, Option, Some, None}
use Rattle.std.proofs.Common.{slice_get}
use Rattle.std.specs.List.{enumerate_from}
use Rattle.kd_state.specs.SheetDay.{Day, Rotor, Pin}
use Rattle.kd_state.specs.EngineKey.{Rotor, Pin}
use Rattle.kd_form.specs.PartMaking.{cipher_from}
use Rattle.kd_lost.specs.Laws.{CiphersAgreeWhereTextsDo}
use Rattle.kd_lost.specs.Lost.{Completes, covered, filled}

agree_from : (f : ℕ × ℕ → ℕ) (start : ℕ) (text other : List ℕ) (place : ℕ)
    → slice_get text place ≡ slice_get other place
    → slice_get (map f (enumerate_from start text)) place ≡ slice_get (map f (enumerate_from start other)) place
agree_from f start [] [] place same = refl
agree_from f start [] (y ∷ other) zero same = grind (arith)
agree_from f start [] (y ∷ other) (suc place) same = grind (arith, agree_from f (start + 1) [] other place)
agree_from f start (x ∷ text) [] zero same = grind (arith)
agree_from f start (x ∷ text) [] (suc place) same = grind (arith, agree_from f (start + 1) text [] place)
agree_from f start (x ∷ text) (y ∷ other) zero same = grind (arith)
agree_from f start (x ∷ text) (y ∷ other) (suc place) same = grind (arith, agree_from f (start + 1) text other place)

pub ciphers_agree : CiphersAgreeWhereTextsDo
ciphers_agree (Rotor key) text other place same = agree_from _ 1 text other place same
ciphers_agree (Pin key) text other place same = agree_from _ 0 text other place same

-- two completions of the same letters, enciphered letter by letter, agree wherever no letter was lost
covered_alike : (f : ℕ × ℕ → ℕ) (start : ℕ) (received : List (Option ℕ)) (whole other : List ℕ)
    → Completes received whole → Completes received other
    → covered received (map f (enumerate_from start whole)) ≡ covered received (map f (enumerate_from start other))
covered_alike f start [] [] [] a b = refl
covered_alike f start [] (x ∷ whole) other a b = absurd a
covered_alike f start [] [] (y ∷ other) a b = absurd b
covered_alike f start (got ∷ received) [] other a b = absurd a
covered_alike f start (got ∷ received) (x ∷ whole) [] a b = absurd b
covered_alike f start (None ∷ received) (x ∷ whole) (y ∷ other) a b =
    ap (λ l. None ∷ l) (covered_alike f (start + 1) received whole other a.1 b.1)
covered_alike f start (Some got ∷ received) (x ∷ whole) (y ∷ other) a b =
    λ i. Some (f (start, (a.0 ∙ sym b.0) i)) ∷ covered_alike f (start + 1) received whole other a.1 b.1 i

pub ciphers_covered_alike : (s : Day) (window : List ℕ) (received : List (Option ℕ)) (whole other : List ℕ)
    → Completes received whole → Completes received other
    → covered received (cipher_from s window whole) ≡ covered received (cipher_from s window other)
ciphers_covered_alike (Rotor s) window received whole other a b = covered_alike _ 1 received whole other a b
ciphers_covered_alike (Pin s) window received whole other a b = covered_alike _ 0 received whole other a b

pub filled_completes : (received : List (Option ℕ)) → Completes received (filled received)
filled_completes [] = tt
filled_completes (None ∷ received) = (omega arith, filled_completes received)
filled_completes (Some got ∷ received) = (refl, filled_completes received)
