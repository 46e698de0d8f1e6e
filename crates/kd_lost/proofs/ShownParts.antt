-- Whether a whole message was read: number by number.
use Rattle.std.proofs.Common.{◌≡◌, ◌∙◌, ℕ, zero, suc, ◌+◌, ◌-◌, ◌<◌, ◌↔◌, Bool, true, false, ◌∷◌}
use Rattle.std.proofs.Common.{All, IsTrue, arith, sym}
use Rattle.std.proofs.lemmas.Bool.{false≢true}
use Rattle.std.proofs.lemmas.List.Elements.{All-cons, All-head, All-tail}
use Rattle.std.specs.List.{range_with_len}

pub range_first : (from count : ℕ) → 0 < count
    → range_with_len from count ≡ from ∷ range_with_len (from + 1) (count - 1)
range_first from zero some = absurd (omega arith)
range_first from (suc count) some = grind arith

pub number_there : (P : ℕ → Type 0) (number count : ℕ) {one more : Bool} → 0 < count → (IsTrue one ↔ P number)
    → one ≡ true → (IsTrue more ↔ All P (range_with_len (number + 1) (count - 1)))
    → IsTrue more ↔ All P (range_with_len number count)
number_there P number count some is there rest =
    let later = range_with_len (number + 1) (count - 1) in
    rw (range_first number count some)
    ((λ told. All-cons P number later (is.0 there) (rest.0 told)), (λ all. rest.1 (All-tail P number later all)))

pub number_missing : (P : ℕ → Type 0) (number count : ℕ) {one : Bool} → 0 < count → (IsTrue one ↔ P number)
    → one ≡ false → IsTrue one ↔ All P (range_with_len number count)
number_missing P number count some is missing =
    let later = range_with_len (number + 1) (count - 1) in
    rw (range_first number count some)
    ((λ told. absurd (false≢true (sym missing ∙ told))), (λ all. is.1 (All-head P number later all)))
