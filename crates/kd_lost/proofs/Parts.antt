-- Completions of bytes, and the lines of a part.
use Rattle.std.proofs.Common.{All, ◌≡◌, ◌≢◌, ◌∙◌, ◌⊎◌, inl, inr, ℕ, ◌+◌, ◌<◌, List, [], ◌∷◌, ◌++◌, map}
use Rattle.std.proofs.Common.{refl, sym, ap, subst, arith, Option, Some, None, IsTrue, IsFalse, get_or, Bool, true}
use Rattle.std.proofs.Common.{false, length, take, arith, length-take, Result}
use Rattle.std.specs.List.{cons_option}
use Rattle.std.proofs.lemmas.Bool.{Decides.nat_tests, cases_Bool}
use Rattle.std.proofs.lemmas.List.{take_all}
use Rattle.std.proofs.lemmas.List.Elements.{All-head, All-tail, All-cons, All-nil, All-map}
use Rattle.kd_tables.specs.Text.{is_text_byte, is_capital}
use Rattle.kd_tables.specs.LineWords.{IsWithout, IsFirstPart}
use Rattle.kd_state.specs.AnswerRules.{GoesOn}
use Rattle.kd_state.specs.SheetDay.{Day}
use Rattle.kd_form.specs.declared.heading.Heading.{Heading}
use Rattle.kd_form.specs.FormParts.{IsHeading}
use Rattle.kd_form.specs.Sending.{letter_of_byte, letters_from}
use Rattle.kd_form.proofs.Headings.{at_most}
use Rattle.kd_lost.specs.declared.{damage.PartDamage.{PartDamage}, damaged_text.DamagedText.{DamagedText}}
use Rattle.kd_lost.specs.DamagedText.{IsDamagedLettersAnswer}
use Rattle.kd_lost.specs.Lost.{AnyLetter, AsReceived, Completes, IsCompletion, MayHaveBeen, meant_byte, is_lost}
use Rattle.kd_lost.specs.Lost.{received_letter, received_letters}
use Rattle.kd_lost.specs.DamagedPart.{IsDamagedBodyAnswer, body_of, filled_byte, first_line, is_body_byte}

-- -------- completions of bytes

-- the letters of a body's completion complete the body's letters
pub letters_complete : (body whole : List ℕ) → IsCompletion body whole
    → Completes (received_letters body) (letters_from None whole)
letters_complete [] [] a = tt
letters_complete [] (x ∷ whole) a = absurd a
letters_complete (byte ∷ body) [] a = absurd a
letters_complete (byte ∷ body) (x ∷ whole) (AnyLetter lost capital, a) =
    grind (arith, nat_tests, letters_complete body whole a)
letters_complete (byte ∷ body) (x ∷ whole) (AsReceived kept is, a) =
    grind (arith, nat_tests, cases_Bool, letters_complete body whole a)

-- a completion of two texts in a row is a completion of each in a row
pub completion_split : (front rest whole : List ℕ) → IsCompletion (front ++ rest) whole
    → (first last : List ℕ) × (whole ≡ first ++ last) × IsCompletion front first × IsCompletion rest last
completion_split [] rest whole a = ([], whole, refl, tt, a)
completion_split (x ∷ front) rest [] a = absurd a
completion_split (x ∷ front) rest (y ∷ whole) (b, a) =
    let (first, last, joined, one, other) = completion_split front rest whole a in
    (y ∷ first, last, ap (λ l. y ∷ l) joined, (b, one), other)

pub completion_joined : (front rest first last : List ℕ) → IsCompletion front first → IsCompletion rest last
    → IsCompletion (front ++ rest) (first ++ last)
completion_joined [] rest [] last a b = b
completion_joined [] rest (y ∷ first) last a b = absurd a
completion_joined (x ∷ front) rest [] last a b = absurd a
completion_joined (x ∷ front) rest (y ∷ first) last a b = (a.0, completion_joined front rest first last a.1 b)

-- a line without lost letters is completed by its capitals alone
pub unlost_line : (line whole : List ℕ) → All (λ byte. IsFalse (is_lost byte)) line → IsCompletion line whole
    → whole ≡ map meant_byte line
unlost_line [] [] kept a = refl
unlost_line [] (x ∷ whole) kept a = absurd a
unlost_line (byte ∷ line) [] kept a = absurd a
unlost_line (byte ∷ line) (x ∷ whole) kept (AnyLetter lost capital, a) =
    absurd (grind (arith, All-head (λ byte. IsFalse (is_lost byte)) byte line kept))
unlost_line (byte ∷ line) (x ∷ whole) kept (AsReceived seen is, a) =
    λ i. is i ∷ unlost_line line whole (All-tail (λ byte. IsFalse (is_lost byte)) byte line kept) a i

pub capitals_complete : (line : List ℕ) → All (λ byte. IsFalse (is_lost byte)) line
    → IsCompletion line (map meant_byte line)
capitals_complete [] kept = tt
capitals_complete (byte ∷ line) kept = (
  AsReceived (All-head (λ byte. IsFalse (is_lost byte)) byte line kept) refl,
  capitals_complete line (All-tail (λ byte. IsFalse (is_lost byte)) byte line kept),
)

filled_one : (byte : ℕ) → IsFalse (is_lost byte) → filled_byte byte ≡ meant_byte byte
filled_one byte kept = grind (arith, kept)

pub nothing_filled : (line : List ℕ) → All (λ byte. IsFalse (is_lost byte)) line
    → map filled_byte line ≡ map meant_byte line
nothing_filled [] kept = refl
nothing_filled (byte ∷ line) kept =
    let one = filled_one byte (All-head (λ byte. IsFalse (is_lost byte)) byte line kept) in
    let more = nothing_filled line (All-tail (λ byte. IsFalse (is_lost byte)) byte line kept) in
    λ i. one i ∷ more i

no_break : (byte other : ℕ) → MayHaveBeen byte other → byte ≢ 10 → other ≢ 10
no_break byte other (AnyLetter lost capital) unbroken = grind (arith, nat_tests)
no_break byte other (AsReceived kept is) unbroken = grind (arith, nat_tests, cases_Bool)

-- no byte of a completion is an LF if no byte of the text is one
pub unbroken_whole : (line whole : List ℕ) → IsWithout 10 line → IsCompletion line whole → IsWithout 10 whole
unbroken_whole [] [] without a = without
unbroken_whole [] (x ∷ whole) without a = absurd a
unbroken_whole (byte ∷ line) [] without a = absurd a
unbroken_whole (byte ∷ line) (x ∷ whole) without (b, a) =
    All-cons (λ other. other ≢ 10) x whole
    (no_break byte x b (All-head (λ other. other ≢ 10) byte line without))
    (unbroken_whole line whole (All-tail (λ other. other ≢ 10) byte line without) a)

filled_unbroken : (byte : ℕ) → byte ≢ 10 → filled_byte byte ≢ 10
filled_unbroken byte unbroken = grind (arith, nat_tests, cases_Bool)

pub unbroken_filled : (line : List ℕ) → IsWithout 10 line → IsWithout 10 (map filled_byte line)
unbroken_filled line without = All-map (λ b. b ≢ 10) filled_byte line
    (λ k d inside. filled_unbroken (get_or line k d) (without k d inside))

-- -------- the bytes that letters give

-- `rest` is the completion of `body` that has the letters `letters`
pub record Restored (body letters : List ℕ) : Type 0 where
  pub rest : List ℕ
  pub completes : IsCompletion body rest
  pub has : letters_from None rest ≡ letters
  pub allowed : All (λ byte. IsTrue (is_text_byte byte)) rest

-- what a byte of a body gives
data IsKindOf (byte : ℕ) : Type 0 where
  Lost : IsTrue (is_lost byte) → received_letter byte ≡ Some None → IsKindOf byte
  Kept : (letter : ℕ) → IsFalse (is_lost byte) → letter_of_byte None (meant_byte byte) ≡ Some letter
      → received_letter byte ≡ Some (Some letter) → IsKindOf byte
  Other : IsFalse (is_lost byte) → letter_of_byte None (meant_byte byte) ≡ None → received_letter byte ≡ None
      → IsKindOf byte

kind_told : (byte : ℕ) (lost : Bool) (found : Option ℕ) → is_lost byte ≡ lost
    → letter_of_byte None (meant_byte byte) ≡ found → IsKindOf byte
kind_told byte true found is given = Lost is (grind (arith, is))
kind_told byte false None is given = Other is given (grind (arith, is, given))
kind_told byte false (Some letter) is given = Kept letter is given (grind (arith, is, given))

kind_of : (byte : ℕ) → IsKindOf byte
kind_of byte = kind_told byte (is_lost byte) (letter_of_byte None (meant_byte byte)) refl refl

letter_back : (letter : ℕ) → letter < 26 → letter_of_byte None (letter + 65) ≡ Some letter
letter_back letter small = grind (arith, nat_tests)

capital_back : (letter : ℕ) → letter < 26 → IsTrue (is_capital (letter + 65))
capital_back letter small = grind (arith, nat_tests)

text_back : (letter : ℕ) → letter < 26 → IsTrue (is_text_byte (letter + 65))
text_back letter small = grind (arith, nat_tests)

body_text : (byte : ℕ) → IsFalse (is_lost byte) → IsTrue (is_body_byte byte) → IsTrue (is_text_byte (meant_byte byte))
body_text byte kept allowed = grind (arith, kept, allowed)

restored_byte : (byte sent : ℕ) (body letters more : List ℕ) (found : Option ℕ) → MayHaveBeen byte sent
    → letter_of_byte None sent ≡ found → IsTrue (is_text_byte sent) → letters ≡ cons_option found more
    → Restored body more → Restored (byte ∷ body) letters
restored_byte byte sent body letters more found may given allowed is rest = record {
  rest = sent ∷ rest.rest;
  completes = (may, rest.completes);
  has = ap (λ o. cons_option o (letters_from None rest.rest)) given ∙ ap (cons_option found) rest.has ∙ sym is;
  allowed = All-cons (λ byte. IsTrue (is_text_byte byte)) sent rest.rest allowed rest.allowed;
}

restored_kind : (byte : ℕ) (body letters : List ℕ) → IsKindOf byte → IsTrue (is_body_byte byte)
    → Completes (received_letters (byte ∷ body)) letters
    → ((letters : List ℕ) → Completes (received_letters body) letters → Restored body letters)
    → Restored (byte ∷ body) letters
restored_kind byte body [] (Lost lost is) allowed a more =
    absurd (subst (λ o. Completes (cons_option o (received_letters body)) []) is a)
restored_kind byte body (x ∷ letters) (Lost lost is) allowed a more =
    let b = subst (λ o. Completes (cons_option o (received_letters body)) (x ∷ letters)) is a in
    restored_byte byte (x + 65) body (x ∷ letters) letters (Some x) (AnyLetter lost (capital_back x b.0))
    (letter_back x b.0) (text_back x b.0) refl (more letters b.1)
restored_kind byte body [] (Kept letter kept given is) allowed a more =
    absurd (subst (λ o. Completes (cons_option o (received_letters body)) []) is a)
restored_kind byte body (x ∷ letters) (Kept letter kept given is) allowed a more =
    let b = subst (λ o. Completes (cons_option o (received_letters body)) (x ∷ letters)) is a in
    restored_byte byte (meant_byte byte) body (x ∷ letters) letters (Some letter) (AsReceived kept refl) given
    (body_text byte kept allowed) (ap (λ l. l ∷ letters) b.0) (more letters b.1)
restored_kind byte body letters (Other kept given is) allowed a more =
    restored_byte byte (meant_byte byte) body letters letters None (AsReceived kept refl) given
    (body_text byte kept allowed) refl
    (more letters (subst (λ o. Completes (cons_option o (received_letters body)) letters) is a))

-- letters that complete those of a body are those of a completion
pub restored : (body letters : List ℕ) → All (λ byte. IsTrue (is_body_byte byte)) body
    → Completes (received_letters body) letters → Restored body letters
restored [] [] allowed a = record {
  rest = [];
  completes = tt;
  has = refl;
  allowed = All-nil (λ byte. IsTrue
      (is_text_byte byte));
}
restored [] (x ∷ letters) allowed a = absurd a
restored (byte ∷ body) letters allowed a =
    restored_kind byte body letters (kind_of byte) (All-head (λ byte. IsTrue (is_body_byte byte)) byte body allowed) a
    (λ others. restored body others (All-tail (λ byte. IsTrue (is_body_byte byte)) byte body allowed))

-- -------- the lines of a part

more_line : (byte : ℕ) (bytes : List ℕ) → byte ≢ 10
    → (first_line (byte ∷ bytes) ≡ byte ∷ first_line bytes) × (body_of (byte ∷ bytes) ≡ body_of bytes)
more_line byte bytes other = (grind (arith, nat_tests, other), grind (arith, nat_tests, other))

pub lines_there : (line body : List ℕ) → IsWithout 10 line
    → (first_line (line ++ 10 ∷ body) ≡ line) × (body_of (line ++ 10 ∷ body) ≡ body)
lines_there [] body without = (refl, refl)
lines_there (byte ∷ line) body without =
    let (first, rest) = more_line byte (line ++ 10 ∷ body) (All-head (λ other. other ≢ 10) byte line without) in
    let more = lines_there line body (All-tail (λ other. other ≢ 10) byte line without) in
    (first ∙ ap (λ l. byte ∷ l) more.0, rest ∙ more.1)

pub one_line : (part : List ℕ) → IsWithout 10 part → (first_line part ≡ part) × (body_of part ≡ [])
one_line [] without = (refl, refl)
one_line (byte ∷ part) without =
    let (first, rest) = more_line byte part (All-head (λ other. other ≢ 10) byte part without) in
    let more = one_line part (All-tail (λ other. other ≢ 10) byte part without) in
    (first ∙ ap (λ l. byte ∷ l) more.0, rest ∙ more.1)

-- a part is its first line, LF and its body, or it has no body
pub data HasLines (part : List ℕ) : Type 0 where
  TwoLines : IsFirstPart 10 part (first_line part) (body_of part) → HasLines part
  OneLine : body_of part ≡ [] → HasLines part

pub break_or_not : (byte : ℕ) → (byte ≡ 10) ⊎ (byte ≢ 10)
break_or_not byte = grind (arith, nat_tests)

has_more_lines : (byte : ℕ) (part : List ℕ) → (byte ≡ 10) ⊎ (byte ≢ 10) → HasLines part → HasLines (byte ∷ part)
has_more_lines byte part (inl is) rest =
    subst (λ b. HasLines (b ∷ part)) (sym is)
    (TwoLines (record { joined = refl; without = All-nil (λ other. other ≢ 10) }))
has_more_lines byte part (inr other) (TwoLines first) =
    let more = more_line byte part other in
    TwoLines (record {
      joined = ap (λ l. byte ∷ l) first.joined ∙ λ i. sym more.0 i ++ 10 ∷ sym more.1 i;
      without = subst (IsWithout 10) (sym more.0) (All-cons (λ other. other ≢ 10) byte
          (first_line part) other first.without);
    })
has_more_lines byte part (inr other) (OneLine none) = OneLine ((more_line byte part other).1 ∙ none)

pub has_lines : (part : List ℕ) → HasLines part
has_lines [] = OneLine refl
has_lines (byte ∷ part) = has_more_lines byte part (break_or_not byte) (has_lines part)

-- -------- the answer for a body

-- the body has as many letters as its heading says; then all are kept, as a heading says at most 520
pub counted_answer : (s : Day) (h : Heading) (body : List ℕ) (kept : List (Option ℕ))
    (answer : Result DamagedText PartDamage) → IsHeading s h → All (λ byte. IsTrue (is_body_byte byte)) body
    → kept ≡ take 525 (received_letters body) → length kept ≡ h.letters
    → IsDamagedLettersAnswer s h.indicator kept answer → IsDamagedBodyAnswer s h body answer
counted_answer s h body kept answer is allowed taken counted read =
    let received = received_letters body in
    let few = at_most _ h.letters is.letters in
    let all : kept ≡ received =
    taken ∙ take_all 525 received (omega (arith, ap length taken, length-take 525 received, counted, few)) in
    GoesOn tt allowed (GoesOn tt (sym (ap length all) ∙ counted)
    (subst (λ l. IsDamagedLettersAnswer s h.indicator l answer) all read))
