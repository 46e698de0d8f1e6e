-- A byte order mark at the start of a text.
use Rattle.std.proofs.Common.{◌≡◌, ◌≢◌, ℕ, List, [], ◌∷◌, take, drop, refl, arith}
use Rattle.std.proofs.lemmas.Bool.Decides.{nat_tests}
use Rattle.csv.specs.Reading.{strip_bom}

pub mark_stripped : (text : List ℕ) → take 3 text ≡ 239 ∷ 187 ∷ 191 ∷ [] → strip_bom text ≡ drop 3 text
unfolding strip_bom
mark_stripped [] is = grind arith
mark_stripped (a ∷ []) is = grind arith
mark_stripped (a ∷ b ∷ []) is = grind arith
mark_stripped (a ∷ b ∷ c ∷ rest) is = grind (arith, nat_tests)

pub mark_absent : (text : List ℕ) → take 3 text ≢ 239 ∷ 187 ∷ 191 ∷ [] → strip_bom text ≡ text
unfolding strip_bom
mark_absent [] other = refl
mark_absent (a ∷ []) other = refl
mark_absent (a ∷ b ∷ []) other = refl
mark_absent (a ∷ b ∷ c ∷ rest) other = grind (arith, nat_tests)
