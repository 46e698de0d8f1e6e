-- The letters of a text, read one after another, and the days that have a group.
use Rattle.std.proofs.Common.{◌≡◌, ◌∙◌, ℕ, suc, zero, ◌+◌, ◌-◌, ◌<◌, ◌≤◌, ◌++◌, ◌∷◌, [], Bool, true, false, List}
use Rattle.std.proofs.Common.{Some, ap, sym, refl, arith, append_assoc, drop, get_or, length, map, slice_get, take}
use Rattle.std.specs.Prelude.{if◌then◌else◌}
use Rattle.std.specs.List.{filter, range_with_len}
use Rattle.std.proofs.lemmas.Bool.{false≢true}
use Rattle.std.proofs.lemmas.List.{map-append, take_more, take-append-drop}
use Rattle.std.proofs.lemmas.List.Elements.{filter-append}
use Rattle.kd_tables.specs.Text.{is_capital}
use Rattle.kd_look.specs.Groups.{letters_of}

-- ---- Letters of a text

pub letters_of-append : (front back : List ℕ) → letters_of (front ++ back) ≡ letters_of front ++ letters_of back
letters_of-append front back =
    ap (map (λ byte. byte - 65)) (filter-append is_capital front back)
    ∙ map-append (λ byte. byte - 65) (filter is_capital front) (filter is_capital back)

one_letter : (test : Bool) (byte : ℕ) → test ≡ true
    → map (λ b. b - 65) (if test then byte ∷ [] else []) ≡ (byte - 65) ∷ []
one_letter true byte is = refl
one_letter false byte is = absurd (false≢true is)

-- the letter of a capital letter's byte
pub letters_of-one : (byte letter : ℕ) → byte ≡ letter + 65 → byte ≤ 90 → letters_of (byte ∷ []) ≡ letter ∷ []
letters_of-one byte letter is last =
    let capital : is_capital byte ≡ true = grind arith in
    let same : byte - 65 ≡ letter = omega arith in
    one_letter (is_capital byte) byte capital ∙ ap (λ one. one ∷ []) same

slice_get-middle : (front back : List ℕ) (x : ℕ) → slice_get (front ++ x ∷ back) (length front) ≡ Some x
slice_get-middle [] back x = refl
slice_get-middle (first ∷ front) back x = slice_get-middle front back x

-- the letter of the byte at `index`, before which `number` letters stand
pub letter_at : (text : List ℕ) (index number byte letter : ℕ) → index < length text → get_or text index byte ≡ byte
    → number ≡ length (letters_of (take index text)) → byte ≡ letter + 65 → byte ≤ 90
    → slice_get (letters_of text) number ≡ Some letter
letter_at text index number byte letter inside at counted is last =
    let front = letters_of (take index text) in
    let back = letters_of (drop (index + 1) text) in
    let more : letters_of (take (index + 1) text) ≡ front ++ letter ∷ [] =
    ap letters_of (take_more text index byte inside) ∙ letters_of-append (take index text) (get_or text index byte ∷ [])
    ∙ ap (λ one. front ++ letters_of (one ∷ [])) at ∙ ap (λ one. front ++ one) (letters_of-one byte letter is last) in
    let whole : letters_of text ≡ front ++ letter ∷ back =
    sym (ap letters_of (take-append-drop (index + 1) text))
    ∙ letters_of-append (take (index + 1) text) (drop (index + 1) text)
    ∙ ap (λ letters. letters ++ back) more ∙ append_assoc front (letter ∷ []) back in
    ap (λ letters. slice_get letters number) whole ∙ ap (slice_get (front ++ letter ∷ back)) counted
    ∙ slice_get-middle front back letter

-- ---- Days

range-further : (first count : ℕ)
    → range_with_len first (suc count) ≡ range_with_len first count ++ (first + count) ∷ []
range-further first zero = let same : first + 0 ≡ first = omega arith in rw same refl
range-further first (suc count) =
    let same : first + 1 + count ≡ first + suc count = omega arith in
    ap (λ rest. first ∷ rest) (range-further (first + 1) count
    ∙ ap (λ last. range_with_len (first + 1) count ++ last ∷ []) same)

-- one more number, if it passes the test
pub filter-range-more : (test : ℕ → Bool) (first count : ℕ) → filter test (range_with_len first (count + 1))
    ≡ filter test (range_with_len first count) ++ filter test ((first + count) ∷ [])
filter-range-more test first count =
    let next : count + 1 ≡ suc count = omega arith in
    rw next (ap (filter test) (range-further first count)
    ∙ filter-append test (range_with_len first count) ((first + count) ∷ []))
