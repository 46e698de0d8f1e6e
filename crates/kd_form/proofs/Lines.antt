-- Prefixes of a list up to an item with a property, plain text, and the lines of an order's head.
use Rattle.kd_state.specs.Machine.{AreLetters}
use Rattle.kd_form.specs.declared.sending.pattern_line.PatternFault.TheVariants.{Incomplete, Mismatch}
pub use Rattle.kd_form.proofs.Prelude.{err_is, ◌≡◌, ◌≢◌, ℕ, ◌+◌, ◌≤◌, ◌<◌, true, List, [], ◌∷◌, ◌++◌, refl, Day}
pub use Rattle.kd_form.proofs.Prelude.{length-append, arith, take, ap, ◌∙◌, length, sym, codes, All, nat_le, IsTrue}
pub use Rattle.kd_form.proofs.Prelude.{is_text_byte, list_all, nat_tests, take_all, length-take, AllPass-from_list_all}
pub use Rattle.kd_form.proofs.Prelude.{All-append, All-cons, All-map, All-weaker, All-head, All-tail, letters_text}
pub use Rattle.kd_form.proofs.Prelude.{line_of, IsWithout, Option, option_to_list, letter_of_byte, letters_from, Keys}
pub use Rattle.kd_form.proofs.Prelude.{Rotor, Pin, key_words, common_steps, zero, suc, inl, inr, false, get_or, drop}
pub use Rattle.kd_form.proofs.Prelude.{replicate, append_assoc, length-drop, ◌==◌, cases_Bool, take-append-drop}
pub use Rattle.kd_form.proofs.Prelude.{length-replicate, length-take-le, append-nil, All-nil, All-replicate, All-take}
pub use Rattle.kd_form.proofs.Prelude.{All-drop, PatternFault, IsLineWithEnd, filled_pattern, blank_count, fits_mark}
pub use Rattle.kd_form.proofs.Prelude.{letters_for_mark, IsFilledLine, IsPatternLine, AreLettersAppended}
pub use Rattle.kd_form.proofs.Prelude.{IsPatternFault, Result, Ok, Err, MatchResult, Rotor, Pin, AreKeys}
pub use Rattle.kd_form.proofs.Prelude.{blank_places, rotor_pattern, key_pattern, key_letters, IsAnyKeyLine, IsKeyLine}
pub use Rattle.kd_form.proofs.Prelude.{BeginsWithKeys, nil_from_length, false≢true}

-- the list doesn't begin with an item that has the property
abbrev pub IsNotFirst : {X : Type 0} → (X → Type 0) → List X → Type 0
IsNotFirst P [] = Unit {0}
IsNotFirst P (x ∷ xs) = ¬ (P x)

-- two prefixes of one list, each up to the first item without the property, are equal
pub same_front : {X : Type 0} (P : X → Type 0) (front other rest more : List X) → All P front → All P other
    → IsNotFirst P rest → IsNotFirst P more → front ++ rest ≡ other ++ more → (front ≡ other) × (rest ≡ more)
same_front P [] [] rest more all alls off none same = (refl, same)
same_front P [] (y ∷ other) rest more all alls off none same = grind (arith, All-head)
same_front P (x ∷ front) [] rest more all alls off none same = grind (arith, All-head)
same_front P (x ∷ front) (y ∷ other) rest more all alls off none same =
    let both = same_front P front other rest more (All-tail P x front all) (All-tail P y other alls) off none (cc) in
    (cc, both.1)

abbrev pub IsPlain : List ℕ → Type 0
IsPlain text = All (λ byte. 32 ≤ byte) text

-- a text is plain if a computed test finds no byte below 32
pub plain_text : (text : List ℕ) → list_all (λ b. nat_le 32 b) text ≡ true → IsPlain text
plain_text text passes = grind (arith, All-weaker, nat_tests, AllPass-from_list_all)

pub plain_letters : (letters : List ℕ) → IsPlain (letters_text letters)
plain_letters letters = All-map (λ b. 32 ≤ b) (λ l. l + 65) letters (λ k d inside. omega arith)

pub plain_more : (word text : List ℕ) → IsPlain word → IsPlain text → IsPlain (word ++ 32 ∷ text)
plain_more word text one other =
    All-append (λ b. 32 ≤ b) word (32 ∷ text) one (All-cons (λ b. 32 ≤ b) 32 text (omega arith) other)

pub plain_keys : (k : Keys) → IsPlain (line_of (key_words k))
plain_keys (Rotor k) = search (arith, plain_more, plain_letters, plain_text (codes "PART") refl)
plain_keys (Pin k) = grind (arith, plain_more, plain_text, plain_letters)

pub IsWithout-plain : (byte : ℕ) (text : List ℕ) → byte < 32 → IsPlain text → IsWithout byte text
IsWithout-plain byte text low plain = grind (arith, All-weaker)

pub head_unbroken : IsWithout 10 (codes "PART ")
head_unbroken = IsWithout-plain 10 (codes "PART ") (omega arith) (plain_text (codes "PART ") refl)

-- what is kept of a line is the whole line if it has fewer than `n` bytes
pub whole_line : (n : ℕ) (part line : List ℕ) → line ≡ take n part → length line < n → line ≡ part
whole_line n part line kept short = kept ∙ take_all n part (omega (arith, ap length kept, length-take n part))

-- the letters of a text are the letter of its first byte, if any, and the letters of the rest
pub letters_first : (for_space : Option ℕ) (byte : ℕ) (text : List ℕ)
    → letters_from for_space (byte ∷ text)
    ≡ option_to_list (letter_of_byte for_space byte) ++ letters_from for_space text
letters_first for_space byte text = grind arith

-- the bytes are allowed in a text
abbrev pub AreAllowed : List ℕ → Type 0
AreAllowed bytes = All (λ b. IsTrue (is_text_byte b)) bytes

-- -------- lines of a pattern, mark by mark

pub length-filled : (pattern letters : List ℕ) → length (filled_pattern pattern letters) ≡ length pattern
length-filled [] letters = refl
length-filled (mark ∷ pattern) letters = grind (arith, length-filled pattern)

line_more : (mark byte : ℕ) (pattern letters bytes : List ℕ) → fits_mark mark byte ≡ true
    → IsFilledLine pattern letters bytes
    → IsFilledLine (mark ∷ pattern) (letters_for_mark mark byte ++ letters) (byte ∷ bytes)
line_more mark byte pattern letters bytes fit is = grind (arith, nat_tests, cases_Bool, All-cons)

line_less : (mark byte : ℕ) (pattern letters bytes : List ℕ) → IsFilledLine (mark ∷ pattern) letters (byte ∷ bytes)
    → (fits_mark mark byte ≡ true) × IsPatternLine pattern bytes
line_less mark byte pattern letters bytes is =
    grind (arith, nat_tests, cases_Bool (mark == 95), All-drop (λ l. l < 26) 1 letters)

AreLetters-nil : AreLetters 0 []
AreLetters-nil = record { count = refl; within = All-nil (λ l. l < 26) }

-- the empty list is a proper prefix of a line that fits the pattern: the line with the letter A at each `_`
pub line_open : (pattern bytes : List ℕ) → length bytes ≡ 0 → IsPatternFault (IsPatternLine pattern) bytes Incomplete
line_open pattern bytes none =
    let others : List ℕ = replicate (blank_count pattern) 0 in
    let text : List ℕ = filled_pattern pattern others ++ 10 ∷ [] in
    let are : AreLetters (blank_count pattern) others = record {
      count = length-replicate {A = ℕ} (blank_count pattern) 0;
      within = All-replicate (λ l. l < 26) (blank_count pattern) 0 (omega arith);
    } in
    rw (nil_from_length bytes none) (
      text,
      (λ nil. omega (arith, ap length nil, length-append {A = ℕ})),
      (others, record { are_letters = are; ended = inl refl }),
    )

-- if the first byte doesn't fit its mark, no line of the pattern begins with the bytes
pub line_off : (mark byte : ℕ) (marks rest pattern bytes : List ℕ) → pattern ≡ mark ∷ marks → bytes ≡ byte ∷ rest
    → fits_mark mark byte ≡ false → IsPatternFault (IsPatternLine pattern) bytes Mismatch
line_off mark byte marks rest pattern bytes first next unfit = grind (arith, false≢true, line_less)

-- if a byte fits its mark, the answer for the rest of the line is the answer for the whole line
pub line_on : (mark byte : ℕ) (marks rest pattern bytes old now new : List ℕ) (answer : Result (Unit {0}) PatternFault)
    → pattern ≡ mark ∷ marks → bytes ≡ byte ∷ rest → fits_mark mark byte ≡ true
    → now ≡ old ++ letters_for_mark mark byte
    → MatchResult answer (λ _. AreLettersAppended marks rest now new) (IsPatternFault (IsPatternLine marks) rest)
    → MatchResult answer (λ _. AreLettersAppended pattern bytes old new) (IsPatternFault (IsPatternLine pattern) bytes)
line_on mark byte marks rest pattern bytes old now new (Ok done) first next fit put (more, line, is) =
    grind (arith, line_more, append_assoc)
line_on mark byte marks rest pattern bytes old now new (Err Incomplete) first next fit put
    (more, some, (letters, line)) =
    rw (first, next) (
      more,
      some,
      (letters_for_mark mark byte ++ letters, line_more mark byte marks letters (rest ++ more) fit line),
    )
line_on mark byte marks rest pattern bytes old now new (Err Mismatch) first next fit put none =
    rw (first, next) (λ more line. none more (line_less mark byte marks line.0 (rest ++ more) line.1).1)

-- at the end of the pattern, the answer depends on whether the bytes are a line end
pub line_ends : (pattern bytes letters : List ℕ) (answer : Result (Unit {0}) PatternFault) → length pattern ≡ 0
    → MatchResult answer (λ _. IsLineWithEnd [] bytes) (IsPatternFault (IsLineWithEnd []) bytes)
    → MatchResult answer (λ _. AreLettersAppended pattern bytes letters letters)
    (IsPatternFault (IsPatternLine pattern) bytes)
line_ends [] bytes letters (Ok done) none ended = grind (arith, AreLetters-nil, append-nil)
line_ends [] bytes letters (Err Incomplete) none (more, some, ended) = grind (arith, AreLetters-nil)
line_ends [] bytes letters (Err Mismatch) none off = λ more line. off more line.1.ended
line_ends (mark ∷ pattern) bytes letters answer none told = absurd (omega arith)

pub ruleset pattern_marks = (line_open, line_off, line_on, line_ends)

-- the empty list, and CR alone, are proper prefixes of a line end
pub end_open : (bytes : List ℕ) → length bytes < 2 → (1 ≤ length bytes → get_or bytes 0 0 ≡ 13)
    → IsPatternFault (IsLineWithEnd []) bytes Incomplete
end_open [] few first = (10 ∷ [], (λ none. cc), inl refl)
end_open (a ∷ bytes) few first = (10 ∷ [], (λ none. cc), inr (grind (arith, nil_from_length bytes)))

pub end_off : (bytes more : List ℕ) → 3 ≤ length bytes → ¬ (IsLineWithEnd [] (bytes ++ more))
end_off bytes more long ended = grind (arith, length-append {A = ℕ})

-- -------- lines of keys, as patterns filled with letters

blanks-places : (n : ℕ) (other : List ℕ) → blank_count (blank_places n ++ other) ≡ n + blank_count other
blanks-places zero other = omega arith
blanks-places (suc n) other = ap (λ m. m + 1) (blanks-places n other) ∙ omega arith

filled_word : (n : ℕ) (letters other more : List ℕ) → length letters ≡ n
    → filled_pattern (blank_places n ++ other) (letters ++ more) ≡ letters_text letters ++ filled_pattern other more
filled_word zero [] other more count = refl
filled_word (suc n) (l ∷ letters) other more count = grind (arith, filled_word n letters other more (omega arith))
filled_word _ _ other more count = absurd (omega arith)

filled-places : (n : ℕ) (letters : List ℕ) → length letters ≡ n
    → filled_pattern (blank_places n) letters ≡ letters_text letters
filled-places n letters count = simp append-nil at (filled_word n letters [] [] count)

pub key_line : (s : Day) (k : Keys) → AreKeys s k
    → filled_pattern (key_pattern s) (key_letters k) ≡ line_of (key_words k)
key_line (Rotor s) (Rotor k) are = grind (arith, common_steps, filled_word, filled-places)
key_line (Pin s) (Pin k) are =
    ap (λ t. codes "PART " ++ (k.chosen + 65) ∷ 32 ∷ t) (filled-places 6 k.external are.external.count)
key_line _ _ are = absurd are

rotor_blanks : (slots : ℕ) → blank_count (rotor_pattern slots) ≡ slots + (slots + (2 + 3))
rotor_blanks slots = grind (arith, blanks-places)

letters_joined : {m n : ℕ} {one other : List ℕ} → AreLetters m one → AreLetters n other
    → AreLetters (m + n) (one ++ other)
letters_joined a b = grind (arith, common_steps, length-append, All-append)

letters_cut : (m n : ℕ) (letters : List ℕ) → AreLetters (m + n) letters
    → AreLetters m (take m letters) × AreLetters n (drop m letters)
letters_cut m n letters are = grind (arith, common_steps, length-take-le, length-drop, All-take, All-drop)

-- ---- any letters make keys

keys_exist : (s : Day) (letters : List ℕ) → AreLetters (blank_count (key_pattern s)) letters
    → (k : Keys) × AreKeys s k × (key_letters k ≡ letters)
keys_exist (Rotor s) letters are =
    let slots : ℕ = length s.wheels in
    let (start, others) = letters_cut slots (slots + (2 + 3)) letters (rw (rotor_blanks slots) at are) in
    let (key, last) = letters_cut slots (2 + 3) (drop slots letters) others in
    let (fillers, group) = letters_cut 2 3 (drop slots (drop slots letters)) last in (
      Rotor _,
      record { ground_setting = start; message_key = key; fillers = fillers; group = group },
      simp take-append-drop,
    )
keys_exist (Pin s) [] are = absurd (omega (arith, are.count))
keys_exist (Pin s) (l ∷ letters) are =
    (Pin (record { chosen = l; external = letters }), grind (arith, letters_cut 1 6 (l ∷ letters), All-head), refl)

pub as_key_line : (s : Day) (line : List ℕ) → IsPatternLine (key_pattern s) line → IsAnyKeyLine s line
as_key_line s line is = grind (arith, keys_exist s is.0 is.1.are_letters, key_line)

pub as_form_line : (s : Day) (line : List ℕ) → IsAnyKeyLine s line → IsPatternLine (key_pattern s) line
as_form_line s line is = (key_letters is.keys, grind (arith, rotor_blanks, letters_joined, All-cons, key_line))

pub keys_broken : (s : Day) (bytes : List ℕ) (why : PatternFault)
    → IsPatternFault (IsPatternLine (key_pattern s)) bytes why → IsPatternFault (IsAnyKeyLine s) bytes why
keys_broken s bytes Incomplete (more, some, line) = (more, some, as_key_line s (bytes ++ more) line)
keys_broken s bytes Mismatch none = λ more line. none more (as_form_line s (bytes ++ more) line)

pub keys_read : (s : Day) (bytes letters : List ℕ) (k : Keys) → IsFilledLine (key_pattern s) letters bytes
    → key_letters k ≡ letters → AreKeys s k → AreKeys s k × IsKeyLine k bytes
keys_read s bytes letters k filled told are = grind (arith, key_line)

-- -------- lines of keys, and what follows them

ended_tail : (text line : List ℕ) → IsLineWithEnd text line → (tail : List ℕ) × IsLineWithEnd [] tail
    × (line ≡ text ++ tail)
ended_tail text line ended = grind arith

-- bytes determine the line that they begin with, the line's text, and the bytes after it
pub same_line : (text other line end rest more : List ℕ) → IsPlain text → IsPlain other → IsLineWithEnd text line
    → IsLineWithEnd other end → line ++ rest ≡ end ++ more → (text ≡ other) × (line ≡ end) × (rest ≡ more)
same_line text other line end rest more one two a b same =
    let (tail, ended, joined) = ended_tail text line a in
    let (close, ending, linked) = ended_tail other end b in
    grind (arith, same_front (λ b. 32 ≤ b) text other (tail ++ rest) (close ++ more), append_assoc)

pub key_first : (k : Keys) (line more : List ℕ) → IsKeyLine k line → get_or (line ++ more) 0 0 ≡ 80
key_first k line more ended = grind arith

pub text_front : (last text : List ℕ) → IsLineWithEnd (codes "TEXT") last → get_or (last ++ text) 0 0 ≡ 84
text_front last text ended = grind arith

module _ {P : List ℕ → Type 0} (Q : List ℕ → Type 0) (s : Day) (more : List ℕ) where
  -- bytes that begin with the lines of `keys`, after which the lines of `others` come, begin with the lines of
  -- both
  pub lines_more : (keys others : List Keys) (bytes : List ℕ)
      → ((rest : List ℕ) → P rest → BeginsWithKeys s others Q (rest ++ more))
      → BeginsWithKeys s keys P bytes → BeginsWithKeys s (keys ++ others) Q (bytes ++ more)
  lines_more [] others bytes on is = on bytes is
  lines_more (k ∷ keys) others bytes on (line, rest, are, is, later, joined) =
      grind (arith, append_assoc, lines_more keys others rest on later)

pub text_line : (last : List ℕ) → IsLineWithEnd (codes "TEXT") last → IsPatternLine (codes "TEXT") last
text_line last ended = ([], record { are_letters = AreLetters-nil; ended = ended })
