-- The numbers of a table's rows.
use Rattle.std.proofs.Common.{◌≡◌, ◌∙◌, inl, inr, ℕ, zero, suc, ◌+◌, ◌-◌, ◌<◌, ◌≤◌, ◌==◌, ◌&&◌, Bool, true, false}
use Rattle.std.proofs.Common.{IsFalse, List, [], ◌∷◌, arith, refl, sym, ap, subst, length, drop, get_or}
use Rattle.std.proofs.Common.{MatchOption, Option, None, Some, unwrap_or}
use Rattle.std.proofs.lemmas.Bool.{Decides.nat_tests, cases_Bool, false≢true}
use Rattle.std.proofs.lemmas.List.{drop-drop, drop_all, drop_more, length-drop}
use Rattle.std.proofs.lemmas.Option.{slice_get_past}
use Rattle.std.specs.Prelude.{IfSome, slice_get}
use Rattle.kd_spreadsheet.specs.Rows.{may_end, quoting_after_byte}
use Rattle.kd_spreadsheet.specs.RowNumbers.{AreLineEnds, AtStart, IsNext, IsRowBefore, OneRow, NoRow, StartsRow, Within, ends_line}
use Rattle.kd_spreadsheet.specs.RowNumbers.{numbers_from}
use Rattle.kd_spreadsheet.specs.declared.quotes.Quoting.{Quoting}
use Rattle.kd_spreadsheet.specs.declared.quotes.Quoting.TheVariants.{CellStart}

-- -------- line ends

pub return_and_feed : (left : List ℕ) → AreLineEnds (13 ∷ 10 ∷ left) 1 left
return_and_feed left = record { same = λ separator number. refl; shorter = omega arith }

pub feed_alone : (left : List ℕ) → AreLineEnds (10 ∷ left) 1 left
feed_alone left = record { same = λ separator number. refl; shorter = omega arith }

-- after a CR, bytes that don't begin with an LF
no_feed_from : (separator number byte : ℕ) (bytes : List ℕ) (feed : Bool) → (byte == 10) ≡ feed → IsFalse feed
    → numbers_from separator (AtStart true) number (byte ∷ bytes) ≡ numbers_from separator (AtStart false) number (byte ∷ bytes)
no_feed_from separator number byte bytes true is none = absurd (false≢true (sym none))
no_feed_from separator number byte bytes false is none = rw is refl

no_feed : (separator number : ℕ) (left : List ℕ) → (get_or left 0 0 ≡ 10 → ⊥)
    → numbers_from separator (AtStart true) number left ≡ numbers_from separator (AtStart false) number left
no_feed separator number [] none = refl
no_feed separator number (byte ∷ bytes) none =
    no_feed_from separator number byte bytes (byte == 10) refl (grind (arith, nat_tests, cases_Bool, none))

pub return_alone : (left : List ℕ) → (get_or left 0 0 ≡ 10 → ⊥) → AreLineEnds (13 ∷ left) 1 left
return_alone left none = record {
  same = λ separator number. no_feed separator (number + 1) left none;
  shorter = omega arith;
}

pub ends_further : (bytes middle left : List ℕ) (count : ℕ) → AreLineEnds bytes count middle → AreLineEnds middle 1 left
    → AreLineEnds bytes (count + 1) left
ends_further bytes middle left count before one = record {
  same = λ separator number.
      let sum : number + count + 1 ≡ number + (count + 1) = omega arith in
      before.same separator number ∙ one.same separator (number + count)
      ∙ ap (λ n. numbers_from separator (AtStart false) n left) sum;
  shorter = omega (arith, before.shorter, one.shorter);
}

pub no_ends : (bytes : List ℕ) → AreLineEnds bytes 0 bytes
no_ends bytes = record {
  same = λ separator number.
      let sum : number ≡ number + 0 = omega arith in ap (λ n. numbers_from separator (AtStart false) n bytes) sum;
  shorter = omega arith;
}

-- -------- a row

-- the row that begins the bytes is in a cell, as quotes go, before the bytes from `index` on
abbrev pub IsInRow : ℕ → List ℕ → Quoting → ℕ → Type 0
IsInRow separator bytes quoting index =
    (number : ℕ) → numbers_from separator (Within CellStart) number bytes
    ≡ numbers_from separator (Within quoting) number (drop index bytes)

in_row_more_from : (separator number byte : ℕ) (bytes : List ℕ) (quoting : Quoting) (ends : Bool)
    → (ends_line byte && may_end quoting) ≡ ends → ends ≡ false
    → numbers_from separator (Within quoting) number (byte ∷ bytes)
    ≡ numbers_from separator (Within (quoting_after_byte separator quoting byte)) number bytes
in_row_more_from separator number byte bytes quoting true is none = absurd (false≢true (sym none))
in_row_more_from separator number byte bytes quoting false is none = rw is refl

-- one byte further in the row
pub in_row_more : (separator : ℕ) (bytes : List ℕ) (quoting after : Quoting) (index byte : ℕ) → index < length bytes
    → get_or bytes index byte ≡ byte → (ends_line byte && may_end quoting) ≡ false
    → after ≡ quoting_after_byte separator quoting byte → IsInRow separator bytes quoting index
    → IsInRow separator bytes after (index + 1)
in_row_more separator bytes quoting after index byte inside there none is before number =
    let rest = drop (index + 1) bytes in
    let split : drop index bytes ≡ byte ∷ rest = drop_more bytes index byte inside ∙ ap (λ b. b ∷ rest) there in
    before number ∙ ap (numbers_from separator (Within quoting) number) split
    ∙ in_row_more_from separator number byte rest quoting _ refl none
    ∙ ap (λ q. numbers_from separator (Within q) number rest) (sym is)

-- the first row has the number, if there is one
row_begins_from : (separator number byte : ℕ) (bytes : List ℕ) (ends : Bool) → ends_line byte ≡ ends → ends ≡ false
    → numbers_from separator (AtStart false) number (byte ∷ bytes)
    ≡ number ∷ numbers_from separator (Within CellStart) number (byte ∷ bytes)
row_begins_from separator number byte bytes true is none = absurd (false≢true (sym none))
row_begins_from separator number byte bytes false is none = rw is refl

row_begins : (separator number byte : ℕ) (bytes : List ℕ) → IsFalse (ends_line byte)
    → numbers_from separator (AtStart false) number (byte ∷ bytes)
    ≡ number ∷ numbers_from separator (Within CellStart) number (byte ∷ bytes)
row_begins separator number byte bytes none = row_begins_from separator number byte bytes (ends_line byte) refl none

-- a row that ends here
row_ends : (separator number byte : ℕ) (bytes : List ℕ) (quoting : Quoting) → ends_line byte ≡ true
    → may_end quoting ≡ true
    → numbers_from separator (Within quoting) number (byte ∷ bytes)
    ≡ numbers_from separator (AtStart false) number (byte ∷ bytes)
row_ends separator number byte bytes quoting line may = rw (line, may) refl

not_at_start : (byte : ℕ) (bytes : List ℕ) → ends_line byte ≡ true → StartsRow (byte ∷ bytes) → ⊥
not_at_start byte bytes ends starts = false≢true (sym starts ∙ ends)

row_shorter : (size index left : ℕ) → index < size → 1 ≤ index → 1 + left ≤ size - index → left + 2 ≤ size
row_shorter size index left inside some less = omega (arith, inside, some, less)

-- the row ends before the byte at `index`, after which `left` is what follows the line end
pub row_found : (separator : ℕ) (bytes left : List ℕ) (quoting : Quoting) (index byte : ℕ) → StartsRow bytes
    → index < length bytes → get_or bytes index byte ≡ byte → ends_line byte ≡ true → may_end quoting ≡ true
    → IsInRow separator bytes quoting index → AreLineEnds (drop index bytes) 1 left → IsRowBefore separator bytes left
row_found separator [] left quoting index byte starts inside there ends may in_row line = absurd (omega (arith, inside))
row_found separator (first ∷ bytes) left quoting zero byte starts inside there ends may in_row line =
    absurd (not_at_start first bytes (ap ends_line there ∙ ends) starts)
row_found separator (first ∷ bytes) left quoting (suc index) byte starts inside there ends may in_row line =
    let all = first ∷ bytes in
    let rest = drop (suc index + 1) all in
    let split : drop (suc index) all ≡ byte ∷ rest = drop_more all (suc index) byte inside ∙ ap (λ b. b ∷ rest) there in
    let size : length (drop (suc index) all) ≡ length all - suc index = length-drop (suc index) all in
    OneRow (λ number. row_begins separator number first bytes starts
    ∙ ap (λ l. number ∷ l)
    (in_row number ∙ ap (numbers_from separator (Within quoting) number) split
    ∙ row_ends separator number byte rest quoting ends may
    ∙ ap (numbers_from separator (AtStart false) number) (sym split) ∙ line.same separator number))
    (inr (row_shorter (length all) (suc index) (length left) inside (omega arith) (omega (arith, line.shorter, size))))

-- what follows the line end is found
pub row_found_or : {B : Type 0} (now : B → List ℕ) (separator : ℕ) (bytes : List ℕ) (quoting : Quoting) (index byte : ℕ)
    (found : Option B) (none : B) → StartsRow bytes → index < length bytes → get_or bytes index byte ≡ byte
    → ends_line byte ≡ true → may_end quoting ≡ true → IsInRow separator bytes quoting index
    → MatchOption found (StartsRow (drop index bytes)) (λ left. AreLineEnds (drop index bytes) 1 (now left))
    → IsRowBefore separator bytes (now (unwrap_or found none))
row_found_or now separator bytes quoting index byte None none starts inside there ends may in_row line =
    let rest = drop (index + 1) bytes in
    let split : drop index bytes ≡ byte ∷ rest = drop_more bytes index byte inside ∙ ap (λ b. b ∷ rest) there in
    absurd (not_at_start byte rest ends (subst StartsRow split line))
row_found_or now separator bytes quoting index byte (Some left) none starts inside there ends may in_row line =
    row_found separator bytes (now left) quoting index byte starts inside there ends may in_row line

-- the row goes on to the end
pub row_last : (separator : ℕ) (bytes : List ℕ) (quoting : Quoting) (index : ℕ) → StartsRow bytes → length bytes ≤ index
    → IsInRow separator bytes quoting index → IsRowBefore separator bytes []
row_last separator [] quoting index starts past in_row = NoRow refl refl
row_last separator (first ∷ bytes) quoting index starts past in_row =
    OneRow (λ number. row_begins separator number first bytes starts
    ∙ ap (λ l. number ∷ l)
    (in_row number ∙ ap (numbers_from separator (Within quoting) number) (drop_all index (first ∷ bytes) past)))
    (inl refl)

-- -------- the next row

next_of : (separator number count : ℕ) (bytes left rest : List ℕ) → AreLineEnds bytes count left
    → IsRowBefore separator left rest
    → IsNext (numbers_from separator (AtStart false) number bytes) (number + count)
    (numbers_from separator (AtStart false) (number + count + 1) rest)
next_of separator number count bytes left rest ends (NoRow none nothing) =
    inr (
      ends.same separator number ∙ ap (numbers_from separator (AtStart false) (number + count)) none,
      ap (numbers_from separator (AtStart false) (number + count + 1)) nothing,
    )
next_of separator number count bytes left rest ends (OneRow row shorter) =
    inl (ends.same separator number ∙ row (number + count))

-- -------- the numbers that are left

taken_from : {X : Type 0} (xs : List X) (i : ℕ) (x : X) (rest : List X) → drop i xs ≡ x ∷ rest
    → (slice_get xs i ≡ Some x) × (drop (i + 1) xs ≡ rest)
taken_from [] i x rest is = absurd (omega (arith, ap length (sym (drop_all i [] (omega arith)) ∙ is)))
taken_from (y ∷ xs) zero x rest is = (cc, ap (drop 1) is)
taken_from (y ∷ xs) (suc i) x rest is =
    let taken = taken_from xs i x rest is in
    let step : suc i + 1 ≡ suc (i + 1) = omega arith in
    (taken.0, ap (λ n. drop n (y ∷ xs)) step ∙ taken.1)

none_from : {X : Type 0} (xs : List X) (i : ℕ) → drop i xs ≡ [] → (slice_get xs i ≡ None) × (drop (i + 1) xs ≡ [])
none_from [] i is = (slice_get_past [] i (omega arith), drop_all (i + 1) [] (omega arith))
none_from (y ∷ xs) zero is = absurd (omega (arith, ap length is))
none_from (y ∷ xs) (suc i) is =
    let taken = none_from xs i is in
    let step : suc i + 1 ≡ suc (i + 1) = omega arith in
    (taken.0, ap (λ n. drop n (y ∷ xs)) step ∙ taken.1)

-- the number is that of row `i` under the first row, and the others are left
pub next_due : (all : List ℕ) (i number : ℕ) (left after : List ℕ) → left ≡ drop (i + 1) all → IsNext left number after
    → IfSome (slice_get (drop 1 all) i) (λ due. number ≡ due) × (after ≡ drop (i + 1 + 1) all)
next_due all i number left after is (inl next) =
    let there : drop i (drop 1 all) ≡ number ∷ after = drop-drop i 1 all ∙ ap (λ n. drop n all) (omega arith) ∙ sym is ∙ next in
    let taken = taken_from (drop 1 all) i number after there in
    let last = taken_from all (i + 1) number after (sym is ∙ next) in
    (subst (λ o. IfSome o (λ due. number ≡ due)) (sym taken.0) refl, sym last.1)
next_due all i number left after is (inr (none, nothing)) =
    let there : drop i (drop 1 all) ≡ [] = drop-drop i 1 all ∙ ap (λ n. drop n all) (omega arith) ∙ sym is ∙ none in
    let taken = none_from (drop 1 all) i there in
    let last = none_from all (i + 1) (sym is ∙ none) in
    (subst (λ o. IfSome o (λ due. number ≡ due)) (sym taken.0) tt, nothing ∙ sym last.1)

-- the numbers under the first row
pub under_first : (all : List ℕ) (number : ℕ) (left after : List ℕ) → left ≡ all → IsNext left number after
    → after ≡ drop (0 + 1) all
under_first all number left after is (inl next) = sym (ap (drop 1) (sym is ∙ next))
under_first all number left after is (inr (none, nothing)) = nothing ∙ sym (ap (drop 1) (sym is ∙ none))
