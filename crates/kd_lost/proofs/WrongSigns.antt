-- How far a body is read before its first wrong sign.
use Rattle.std.proofs.Common.{◌≡◌, ◌≢◌, ◌∙◌, ◌⊎◌, inl, inr, ℕ, ◌+◌, ◌<◌, ◌≤◌, ◌==◌, IsTrue, List, [], ◌∷◌, ◌++◌, length}
use Rattle.std.proofs.Common.{drop, get_or, take, refl, subst, sym, ap, arith, append_assoc, Bool, cond, is_some, if◌then◌else◌, true, false}
use Rattle.std.specs.List.{count_by}
use Rattle.std.proofs.lemmas.Bool.{Decides.nat_tests}
use Rattle.std.proofs.lemmas.List.{append-nil, drop_more, take-append-drop, take_more}
use Rattle.std.proofs.lemmas.List.Sums.{sum_by_push}
use Rattle.std.proofs.lemmas.List.Elements.{All-append, All-cons, All-nil}
use Rattle.kd_lost.specs.Lost.{received_letter, received_letters}
use Rattle.kd_lost.specs.DamagedPart.{is_body_byte}
use Rattle.kd_lost.specs.WrongSign.{IsReadTo}
use Rattle.kd_lost.proofs.Bytes.{letters_counted}
use Rattle.kd_lost.proofs.Parts.{break_or_not}

count_push : {X : Type 0} (p : X → Bool) (xs : List X) (x : X)
    → count_by p (xs ++ x ∷ []) ≡ count_by p xs + cond (p x) 1 0
count_push p xs x = sum_by_push (λ y. cond (p y) 1 0) xs x

pub letters_pushed : (line : List ℕ) (byte : ℕ)
    → length (received_letters (line ++ byte ∷ []))
    ≡ length (received_letters line) + cond (is_some (received_letter byte)) 1 0
letters_pushed line byte =
    sym (letters_counted (line ++ byte ∷ []))
    ∙ count_push (λ byte. is_some (received_letter byte)) line byte
    ∙ ap (λ n. n + cond (is_some (received_letter byte)) 1 0) (letters_counted line)

one_more : (some : Bool) (n letter : ℕ) → letter ≡ n + 1
    → (if some then letter + 1 else letter) ≡ (n + cond some 1 0) + 1
one_more true n letter is = omega (arith, is)
one_more false n letter is = omega (arith, is)

lines_after : (front : List ℕ) (byte number : ℕ) → number ≡ count_by (λ byte. byte == 10) front + 2
    → (if byte == 10 then number + 1 else number) ≡ count_by (λ byte. byte == 10) (front ++ byte ∷ []) + 2
lines_after front byte number is =
    let more = count_push (λ byte. byte == 10) front byte in one_line (byte == 10) _ _ number is more
  where
    one_line : (ends : Bool) (n more number : ℕ) → number ≡ n + 2 → more ≡ n + cond ends 1 0
        → (if ends then number + 1 else number) ≡ more + 2
    one_line true n more number is grown = omega (arith, is, grown)
    one_line false n more number is grown = omega (arith, is, grown)

read_by : (front : List ℕ) (byte number letter : ℕ) → (byte ≡ 10) ⊎ (byte ≢ 10) → IsTrue (is_body_byte byte)
    → IsReadTo front number letter
    → IsReadTo (front ++ byte ∷ []) (if byte == 10 then number + 1 else number)
    (if byte == 10 then 1 else if is_some (received_letter byte) then letter + 1 else letter)
read_by front byte number letter (inl is) allowed read = record {
  line = [];
  allowed = All-append (λ byte. IsTrue (is_body_byte byte)) front (byte ∷ []) read.allowed
      (All-cons (λ byte. IsTrue (is_body_byte byte)) byte [] allowed (All-nil (λ byte. IsTrue (is_body_byte byte))));
  last = record {
    before = front ++ byte ∷ [];
    joined = sym (append-nil (front ++ byte ∷ []));
    whole = inr (front, ap (λ b. front ++ b ∷ []) is);
    without = All-nil (λ other. other ≢ 10);
  };
  on_line = lines_after front byte number read.on_line;
  at_letter = ap (λ b. if b == 10 then 1 else if is_some (received_letter b) then letter + 1 else letter) is;
}
read_by front byte number letter (inr other) allowed read = record {
  line = read.line ++ byte ∷ [];
  allowed = All-append (λ byte. IsTrue (is_body_byte byte)) front (byte ∷ []) read.allowed
      (All-cons (λ byte. IsTrue (is_body_byte byte)) byte [] allowed (All-nil (λ byte. IsTrue (is_body_byte byte))));
  last = record {
    before = read.last.before;
    joined = ap (λ l. l ++ byte ∷ []) read.last.joined ∙ append_assoc read.last.before read.line (byte ∷ []);
    whole = read.last.whole;
    without = All-append (λ other. other ≢ 10) read.line (byte ∷ []) read.last.without
        (All-cons (λ other. other ≢ 10) byte [] other (All-nil (λ other. other ≢ 10)));
  };
  on_line = lines_after front byte number read.on_line;
  at_letter =
      not_break byte other _ ∙ one_more (is_some (received_letter byte)) _ letter read.at_letter
      ∙ ap (λ n. n + 1) (sym (letters_pushed read.line byte));
}
  where
    not_break : (byte : ℕ) → byte ≢ 10 → (n : ℕ) → (if byte == 10 then 1 else n) ≡ n
    not_break byte other n = grind (arith, nat_tests, other)

pub read_on : (front : List ℕ) (byte number letter : ℕ) → IsTrue (is_body_byte byte) → IsReadTo front number letter
    → IsReadTo (front ++ byte ∷ []) (if byte == 10 then number + 1 else number)
    (if byte == 10 then 1 else if is_some (received_letter byte) then letter + 1 else letter)
read_on front byte number letter = read_by front byte number letter (break_or_not byte)

pub read_begun : IsReadTo [] 2 1
read_begun = record {
  line = [];
  allowed = All-nil (λ byte. IsTrue (is_body_byte byte));
  last = record { before = []; joined = refl; whole = inl refl; without = All-nil (λ other. other ≢ 10) };
  on_line = refl;
  at_letter = refl;
}

pub read_further : (body : List ℕ) (i x number letter n l : ℕ) → i < length body → get_or body i 0 ≡ x
    → IsTrue (is_body_byte x) → n ≡ (if x == 10 then number + 1 else number)
    → l ≡ (if x == 10 then 1 else if is_some (received_letter x) then letter + 1 else letter)
    → IsReadTo (take i body) number letter → IsReadTo (take (i + 1) body) n l
read_further body i x number letter n l inside is allowed line_is letter_is read =
    let more = read_on (take i body) x number letter allowed read in
    let front : take (i + 1) body ≡ take i body ++ x ∷ [] =
    take_more body i 0 inside ∙ ap (λ b. take i body ++ b ∷ []) is in
    subst (λ f. IsReadTo f n l) (sym front)
    (subst (λ m. IsReadTo (take i body ++ x ∷ []) m l) (sym line_is)
    (subst (λ m. IsReadTo (take i body ++ x ∷ []) (if x == 10 then number + 1 else number) m) (sym letter_is) more))

pub few_lines : (ends : Bool) (i number n : ℕ) → number ≤ i + 2 → n ≡ (if ends then number + 1 else number)
    → n ≤ i + 1 + 2
few_lines true i number n few is = omega (arith, few, is)
few_lines false i number n few is = omega (arith, few, is)

pub few_letters : (ends some : Bool) (i letter l : ℕ) → letter ≤ i + 1
    → l ≡ (if ends then 1 else if some then letter + 1 else letter) → l ≤ i + 1 + 1
few_letters true some i letter l few is = omega (arith, is)
few_letters false true i letter l few is = omega (arith, few, is)
few_letters false false i letter l few is = omega (arith, few, is)

pub parted : (body : List ℕ) (i x : ℕ) → i < length body → get_or body i 0 ≡ x
    → body ≡ take i body ++ x ∷ drop (i + 1) body
parted body i x inside is =
    sym (take-append-drop i body)
    ∙ ap (λ l. take i body ++ l) (drop_more body i 0 inside ∙ ap (λ b. b ∷ drop (i + 1) body) is)
