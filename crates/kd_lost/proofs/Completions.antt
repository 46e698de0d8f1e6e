-- Completions of letters: their pieces, and how long they are.
use Rattle.std.proofs.Common.{◌≡◌, ℕ, zero, suc, List, [], ◌∷◌, ◌++◌, length, map, drop, take, refl, ap}
use Rattle.std.proofs.Common.{Option, Some}
use Rattle.kd_lost.specs.Lost.{Completes}

pub rest_completes : (n : ℕ) (received : List (Option ℕ)) (whole : List ℕ) → Completes received whole
    → Completes (drop n received) (drop n whole)
rest_completes zero received whole a = a
rest_completes (suc n) [] [] a = tt
rest_completes (suc n) [] (x ∷ whole) a = absurd a
rest_completes (suc n) (got ∷ received) [] a = absurd a
rest_completes (suc n) (got ∷ received) (x ∷ whole) a = rest_completes n received whole a.1

pub front_completes : (n : ℕ) (received : List (Option ℕ)) (whole : List ℕ) → Completes received whole
    → Completes (take n received) (take n whole)
front_completes zero received whole a = tt
front_completes (suc n) [] [] a = tt
front_completes (suc n) [] (x ∷ whole) a = absurd a
front_completes (suc n) (got ∷ received) [] a = absurd a
front_completes (suc n) (got ∷ received) (x ∷ whole) a = (a.0, front_completes n received whole a.1)

pub completes_length : (received : List (Option ℕ)) (whole : List ℕ) → Completes received whole
    → length received ≡ length whole
completes_length [] [] a = refl
completes_length [] (x ∷ whole) a = absurd a
completes_length (got ∷ received) [] a = absurd a
completes_length (got ∷ received) (x ∷ whole) a = ap suc (completes_length received whole a.1)

-- two completions in a row complete what they complete in a row
pub both_complete : (front rest : List (Option ℕ)) (one other : List ℕ) → Completes front one → Completes rest other
    → Completes (front ++ rest) (one ++ other)
both_complete [] rest [] other a b = b
both_complete [] rest (x ∷ one) other a b = absurd a
both_complete (got ∷ front) rest [] other a b = absurd a
both_complete (got ∷ front) rest (x ∷ one) other a b = (a.0, both_complete front rest one other a.1 b)

-- letters of which none is lost have one completion
pub known_whole : (letters whole : List ℕ) → Completes (map Some letters) whole → whole ≡ letters
known_whole [] [] a = refl
known_whole [] (x ∷ whole) a = absurd a
known_whole (letter ∷ letters) [] a = absurd a
known_whole (letter ∷ letters) (x ∷ whole) a = λ i. a.0 i ∷ known_whole letters whole a.1 i
