-- Lists of numbered things, one after another.
use Rattle.std.proofs.Common.{◌≡◌, ℕ, suc, zero, ◌+◌, List, ◌++◌, ap, sym, ◌∙◌, append_assoc, add-zero, arith}
use Rattle.std.proofs.lemmas.List.{append-nil}
use Rattle.std.specs.List.{flat_map, range_with_len}

-- as `one_more`, with the number in the form in which ranges recur
one_further : {A : Type 0} (list : ℕ → List A) (first count : ℕ)
    → flat_map list (range_with_len first (suc count))
    ≡ flat_map list (range_with_len first count) ++ list (first + count)
one_further list first zero = append-nil (list first) ∙ ap list (sym (add-zero first))
one_further list first (suc count) =
    let same : first + 1 + count ≡ first + suc count = omega arith in
    let last = ap (λ n. flat_map list (range_with_len (first + 1) count) ++ list n) same in
    ap (λ rest. list first ++ rest) (one_further list (first + 1) count ∙ last) ∙ sym (append_assoc (list first) _ _)

-- the lists of `count + 1` things are the lists of the first `count`, and then the list of one more
pub one_more : {A : Type 0} (list : ℕ → List A) (first count : ℕ)
    → flat_map list (range_with_len first (count + 1))
    ≡ flat_map list (range_with_len first count) ++ list (first + count)
one_more list first count = let suc_is : count + 1 ≡ suc count = omega arith in rw suc_is (one_further list first count)
