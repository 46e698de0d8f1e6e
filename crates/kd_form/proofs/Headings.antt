-- How a form is divided into parts, and what more bytes change in this; and the heading line that begins a
-- part.
pub use Rattle.kd_form.proofs.Prelude.{IsNumeralModel-digits, common_steps, ◌≡◌, ◌≢◌, ◌⊎◌, inl, inr, ℕ, ◌<◌, ◌≤◌, List}
pub use Rattle.kd_form.proofs.Prelude.{[], ◌∷◌, ◌++◌, length, get_or, take, drop, refl, sym, ap, ◌∙◌, append_assoc}
pub use Rattle.kd_form.proofs.Prelude.{length-append, length-take, arith, codes, All-head, All-tail, All-get_or, IsTrue}
pub use Rattle.kd_form.proofs.Prelude.{nat_tests, cases_Bool, cases_eq, cases_lt, false≢true, append-nil}
pub use Rattle.kd_form.proofs.Prelude.{take-append-le, take-append-drop, take-append_seam, get_or-append}
pub use Rattle.kd_form.proofs.Prelude.{get_or-append_seam, get_or-take, get_or_past, BeginsHeading, cut_at_headings}
pub use Rattle.kd_form.proofs.Prelude.{parts_of, FitsHeadingAt, HasBegunHeading, IsWithout, IsBytesAnswer, FormFault}
pub use Rattle.kd_form.proofs.Prelude.{Err, is_text_byte, AllPass-from_list_all, All-take, All-same, take-take}
pub use Rattle.kd_form.proofs.Prelude.{take_more, rules, ◌^◌, ◌+◌, decimal, All, Option, Some, None, MatchOption}
pub use Rattle.kd_form.proofs.Prelude.{All-from_get_or, All-cons, All-nil, All-append, All-map, All-push, All-weaker}
pub use Rattle.kd_form.proofs.Prelude.{IsFirstPart, line_of, words_of, texts_determine_first_parts, numbers_are_words}
pub use Rattle.kd_form.proofs.Prelude.{lines_split_into_words, parts_make_lines, fraction_text, indicator_words}
pub use Rattle.kd_form.proofs.Prelude.{heading_words, length-map, append_cancel_right, take_all, get_or-map}
pub use Rattle.kd_form.proofs.Prelude.{letters_text, AreFewLetters, IsFraction, IsLetterCount, IsHeading}
pub use Rattle.kd_form.proofs.Prelude.{AreHeadingWords, HasFirstLine, IsLineText, Day, Rotor, Pin, Heading}
pub use Rattle.kd_form.proofs.Prelude.{Indicator, HasIndicator, IsRotorDayWith, IsConverterDay, HasHeading, drop-cons}
pub use Rattle.kd_form.proofs.Prelude.{map, word_by_bytes}
use Rattle.std.proofs.lemmas.Fmt.{digits_decimal, decimal_injective, length-decimal-le, decimal_nonempty}
use Rattle.{kd_form.specs.FormParts.begins_heading, std.proofs.lemmas.Slice.Eq.bytes_eq-Decides}
pub use Rattle.kd_form.proofs.OneOrder.{no_bad_byte, same_letters, same_word}
use Rattle.kd_form.proofs.Rules.{ThenNext-stays}
pub use Rattle.kd_form.proofs.Lines.{AreAllowed, plain_text, whole_line, same_front, IsPlain, plain_letters, plain_more}

-- ---- where a heading begins

pub BeginsHeading-bytes : (bytes : List ℕ) → BeginsHeading bytes
    → (take 5 bytes ≡ codes "PART ") × (48 ≤ get_or bytes 5 0) × (get_or bytes 5 0 ≤ 57)
unfolding begins_heading
BeginsHeading-bytes bytes begins = grind (arith, nat_tests, bytes_eq-Decides (take 5 bytes) (codes "PART "))

pub BeginsHeading-digit : (digit : ℕ) (rest : List ℕ) → 48 ≤ digit → digit ≤ 57
    → BeginsHeading (codes "PART " ++ digit ∷ rest)
unfolding begins_heading
BeginsHeading-digit digit rest low high = grind (arith, nat_tests)

pub heading_size : (bytes : List ℕ) → BeginsHeading bytes → 6 ≤ length bytes
heading_size bytes begun =
    grind (arith, BeginsHeading-bytes bytes begun, cases_lt 5 (length bytes), get_or_past bytes 5 0)

-- the first six bytes decide whether a heading begins
pub begins_front : (bytes more : List ℕ) → 6 ≤ length bytes → begins_heading (bytes ++ more) ≡ begins_heading bytes
unfolding begins_heading
begins_front bytes more long = grind (arith, take-append-le, get_or-append)

pub begins_more : (bytes more : List ℕ) → BeginsHeading bytes → BeginsHeading (bytes ++ more)
begins_more bytes more begun = begins_front bytes more (heading_size bytes begun) ∙ begun

heading_byte : (bytes : List ℕ) (place : ℕ) → BeginsHeading bytes → place < 6 → 32 ≤ get_or bytes place 0
heading_byte bytes place begun inside =
    let kept = BeginsHeading-bytes bytes begun in
    let plain = All-get_or (λ b. 32 ≤ b) (codes "PART ") place 0 in
    grind (arith, cases_lt place 5, kept, get_or-take 5 bytes place 0, plain, plain_text (codes "PART ") refl)

-- the first six bytes of a heading have no LF
pub before_break : (front rest : List ℕ) → BeginsHeading (front ++ 10 ∷ rest) → BeginsHeading front
before_break front rest begun =
    let byte = heading_byte (front ++ 10 ∷ rest) (length front) in
    let lf = get_or-append_seam front 10 rest 0 in
    grind (arith, byte, lf, begins_front front (10 ∷ rest), cases_lt (length front) 6)

-- ---- what may become a heading

-- fewer than six bytes that begin a heading are a prefix of `PART `
few_begin : (bytes more : List ℕ) → length bytes ≤ 5 → BeginsHeading (bytes ++ more)
    → bytes ≡ take (length bytes) (codes "PART ")
few_begin bytes more few begun =
    sym (take-append_seam bytes more) ∙ sym (take-take (length bytes) 5 (bytes ++ more) few)
    ∙ ap (take (length bytes)) (BeginsHeading-bytes (bytes ++ more) begun).0

pub may_begin : (bytes : List ℕ) → HasBegunHeading bytes → (more : List ℕ) × BeginsHeading (bytes ++ more)
may_begin bytes (inl (count, few, is)) = (
  drop count (codes "PART 0"),
  rw (is, ← take-append-le count (codes "PART ") (codes "0") few, take-append-drop count (codes "PART 0"))
      (BeginsHeading-digit 48 [] (omega arith) (omega arith)),
)
may_begin bytes (inr begun) = ([], rw (append-nil bytes) begun)

fits_there : (bytes : List ℕ) (place : ℕ) → BeginsHeading bytes → FitsHeadingAt place (get_or bytes place 0)
fits_there bytes place begun = grind (arith, common_steps, BeginsHeading-bytes bytes begun, get_or-take 5 bytes place 0)

-- if the bytes can begin a heading, and a byte fits after them, they can do so with this byte too
pub HasBegunHeading-snoc : (part line : List ℕ) (byte : ℕ) → line ≡ take 64 part → HasBegunHeading part
    → FitsHeadingAt (length line) byte → HasBegunHeading (part ++ byte ∷ [])
HasBegunHeading-snoc part line byte e d g = grind
    (arith, common_steps, begins_more, length-take, take_more, BeginsHeading-digit)

-- after a byte that doesn't fit, the bytes can't begin a heading
pub not_begun : (part line : List ℕ) (byte : ℕ) → line ≡ take 64 part → ¬ (FitsHeadingAt (length line) byte)
    → (length part < 6) × ((more : List ℕ) → ¬ (BeginsHeading ((part ++ byte ∷ []) ++ more)))
not_begun part line byte kept off =
    let short : length line < 6 = grind (arith, cases_lt (length line) 6) in
    let whole : line ≡ part = whole_line 64 part line kept (omega (arith, short)) in
    let fits = λ (more : List ℕ). fits_there ((part ++ byte ∷ []) ++ more) (length part) in
    (rw whole at short, λ more begun. off (grind (arith, fits more begun, append_assoc, get_or-append_seam)))

cut_or_not : (byte : ℕ) (bytes : List ℕ) → ((byte ≡ 10) × BeginsHeading bytes) ⊎ ((byte ≡ 10) → ¬ (BeginsHeading bytes))
cut_or_not byte bytes = grind (arith, cases_eq byte 10, cases_Bool (begins_heading bytes), false≢true)

pub at_cut : (bytes : List ℕ) → BeginsHeading bytes → cut_at_headings (10 ∷ bytes) ≡ (10 ∷ [], parts_of bytes)
at_cut bytes begun = rw begun refl

pub no_cut : (byte : ℕ) (bytes : List ℕ) → ((byte ≡ 10) → ¬ (BeginsHeading bytes))
    → cut_at_headings (byte ∷ bytes) ≡ (byte ∷ (cut_at_headings bytes).0, (cut_at_headings bytes).1)
no_cut byte bytes not = grind (arith, nat_tests, cases_eq byte 10, cases_Bool (begins_heading bytes))

-- if the bytes are one part, the first byte ends no part, and the other bytes are one part too
cut_at_headings-tail : (byte : ℕ) (bytes : List ℕ) → (cut_at_headings (byte ∷ bytes)).1 ≡ []
    → ((byte ≡ 10) → ¬ (BeginsHeading bytes)) × ((cut_at_headings bytes).1 ≡ [])
cut_at_headings-tail byte bytes none = grind (arith, cut_or_not byte bytes, at_cut bytes, no_cut byte bytes)

pub as_parts : (form part : List ℕ) (others : List (List ℕ)) → cut_at_headings form ≡ (part, others)
    → parts_of form ≡ part ∷ others
as_parts form part others is = ap (λ (c : List ℕ × List (List ℕ)). c.0 ∷ c.1) is

pub first_there : (form : List ℕ) → (rest : List ℕ) × (form ≡ (cut_at_headings form).0 ++ rest)
first_there [] = ([], refl)
first_there (byte ∷ bytes) = elim (cut_or_not byte bytes) [
  | inl (is, begun) ↦ (bytes, rw (is, ap (λ c. c.0) (at_cut bytes begun)) refl)
  | inr not ↦ let (rest, joined) = first_there bytes in (rest, rw (no_cut byte bytes not) (ap (λ l. byte ∷ l) joined))
]

pub cut_at_headings-whole : (form : List ℕ) → (cut_at_headings form).1 ≡ [] → (cut_at_headings form).0 ≡ form
cut_at_headings-whole [] none = refl
cut_at_headings-whole (byte ∷ bytes) none =
    let is = cut_at_headings-tail byte bytes none in rw (no_cut byte bytes is.0)
    (ap (λ l. byte ∷ l) (cut_at_headings-whole bytes is.1))

-- the first part is complete: more bytes only add to what follows it
pub record IsDone (form : List ℕ) : Type 0 where
  pub rest : List ℕ
  pub long : 6 ≤ length form
  pub joined : form ≡ (cut_at_headings form).0 ++ rest
  pub others : (cut_at_headings form).1 ≡ parts_of rest
  pub grows : (more : List ℕ) → cut_at_headings (form ++ more) ≡ ((cut_at_headings form).0, parts_of (rest ++ more))

pub first_done : (form : List ℕ) → (cut_at_headings form).1 ≢ [] → IsDone form
first_done [] some = absurd (some refl)
first_done (byte ∷ bytes) some =
    grind (arith, cut_or_not byte bytes, heading_size, at_cut, begins_more, no_cut, first_done bytes, begins_front)

-- ---- one more byte of the last part

-- bytes without LF at the beginning belong to the first part
pub cut_behind : (line bytes : List ℕ) → IsWithout 10 line
    → cut_at_headings (line ++ bytes) ≡ (line ++ (cut_at_headings bytes).0, (cut_at_headings bytes).1)
cut_behind [] bytes unbroken = refl
cut_behind (byte ∷ line) bytes unbroken =
    grind (arith, no_cut, All-head, All-tail, cut_behind line bytes (All-tail (λ b. b ≢ 10) byte line unbroken))

pub one_byte : (byte : ℕ) → cut_at_headings (byte ∷ []) ≡ (byte ∷ [], [])
one_byte byte = no_cut byte [] (λ is begun. omega (arith, heading_size [] begun))

pub cut_at_headings-line : (line : List ℕ) (byte : ℕ) → IsWithout 10 line
    → cut_at_headings (line ++ byte ∷ []) ≡ (line ++ byte ∷ [], [])
cut_at_headings-line line byte unbroken = cut_behind line (byte ∷ []) unbroken ∙ rw (one_byte byte) refl

-- if five bytes and one more begin a heading, the last one is a digit after `PART `
last_digit : (bytes : List ℕ) (byte : ℕ) → length bytes < 6 → BeginsHeading (bytes ++ byte ∷ [])
    → (bytes ≡ codes "PART ") × (48 ≤ byte) × (byte ≤ 57)
last_digit bytes byte few begun =
    let both = BeginsHeading-bytes (bytes ++ byte ∷ []) begun in
    let size = heading_size (bytes ++ byte ∷ []) begun in
    let last = get_or-append_seam bytes byte [] 0 in
    grind (arith, both, size, length-append bytes (byte ∷ []), last, take-append_seam bytes (byte ∷ []))

-- a byte after the last line begins no part, unless the line is `PART ` and the byte is a digit
pub first_more : (front tail : List ℕ) (byte : ℕ) → IsWithout 10 tail → (cut_at_headings (front ++ 10 ∷ tail)).1 ≡ []
    → ((tail ≡ codes "PART ") → (48 ≤ byte) → (byte ≤ 57) → ⊥)
    → cut_at_headings (front ++ 10 ∷ (tail ++ byte ∷ [])) ≡ (front ++ 10 ∷ (tail ++ byte ∷ []), [])
first_more [] tail byte unbroken none not = grind
    (arith, cut_at_headings-tail, no_cut, last_digit, begins_front, cut_at_headings-line)
first_more (x ∷ front) tail byte unbroken none not =
    grind (arith, cut_at_headings-tail, no_cut, begins_more, before_break, append_assoc, first_more front tail byte)

-- the first digit of a heading ends the part before it
pub first_ends : (front more : List ℕ) (digit : ℕ) → (cut_at_headings (front ++ 10 ∷ codes "PART ")).1 ≡ [] → 48 ≤ digit
    → digit ≤ 57 → cut_at_headings (front ++ 10 ∷ (codes "PART " ++ digit ∷ more))
    ≡ (front ++ 10 ∷ [], parts_of (codes "PART " ++ digit ∷ more))
first_ends [] more digit none low high = grind (arith, at_cut, BeginsHeading-digit)
first_ends (x ∷ front) more digit none low high =
    grind (arith, cut_at_headings-tail, no_cut, begins_more, before_break, append_assoc, first_ends front more digit)

-- fewer than six bytes that begin a heading are all allowed in a body
few_allowed : (bytes more : List ℕ) → length bytes < 6 → BeginsHeading (bytes ++ more) → AreAllowed bytes
few_allowed bytes more few begun = grind (arith, common_steps, All-same, few_begin, All-take, AllPass-from_list_all)

-- with more bytes, the first byte that isn't allowed stays where it is, in the same part
bad_stays : (body more : List ℕ) (position : ℕ) (fault : FormFault) → (cut_at_headings body).1 ≡ []
    → IsBytesAnswer position body (Err fault) → IsBytesAnswer position (cut_at_headings (body ++ more)).0 (Err fault)
bad_stays [] more position fault none found = absurd (cc)
bad_stays (b ∷ body) more position fault none found =
    let is = cut_at_headings-tail b body none in
    elim (cut_or_not b (body ++ more)) [
      | inl (break, begun) ↦
          let few : length body < 6 = grind (arith, cases_lt (length body) 6, begins_front body more, is.0 break) in
          let allowed = few_allowed body more few begun in
          absurd (no_bad_byte position (b ∷ body) fault (grind (arith, All-cons, break)) found)
      | inr not ↦ rw (no_cut b (body ++ more) not) (ThenNext-stays (λ d. d) (λ bad. bad)
          (λ done good next. (good, bad_stays body more (position + 1) fault is.1 next)) found)
    ]

-- `part` is `line`, an LF, and a rest in which the first bad byte is where `body` has it
pub record IsAlike (part line body : List ℕ) : Type 0 where
  pub other : List ℕ
  pub is : part ≡ line ++ 10 ∷ other
  pub bad : (position : ℕ) (fault : FormFault) → IsBytesAnswer position body (Err fault)
      → IsBytesAnswer position other (Err fault)

pub cut_at_headings-IsAlike : (line body more : List ℕ) → IsWithout 10 line
    → (cut_at_headings (line ++ 10 ∷ body)).1 ≡ []
    → IsAlike (cut_at_headings ((line ++ 10 ∷ body) ++ more)).0 line body
cut_at_headings-IsAlike line body more unbroken none =
    let is = cut_at_headings-tail 10 body (sym (ap (λ c. c.1) (cut_behind line (10 ∷ body) unbroken)) ∙ none) in
    let part : (cut_at_headings ((line ++ 10 ∷ body) ++ more)).0 ≡ line ++ (cut_at_headings (10 ∷ (body ++ more))).0 =
    ap (λ l. (cut_at_headings l).0) (append_assoc line (10 ∷ body) more)
    ∙ ap (λ c. c.0) (cut_behind line (10 ∷ (body ++ more)) unbroken) in
    elim (cut_or_not 10 (body ++ more)) [
      | inl (break, begun) ↦
          let few : length body < 6 = grind (arith, cases_lt (length body) 6, begins_front body more, is.0 refl) in
          record {
            other = [];
            is = part ∙ ap (λ (c : List ℕ × List (List ℕ)). line ++ c.0) (at_cut (body ++ more) begun);
            bad = λ position fault at. absurd (no_bad_byte position body fault (few_allowed body more few begun) at);
          }
      | inr not ↦ record {
        other = (cut_at_headings (body ++ more)).0;
        is = part ∙ ap (λ (c : List ℕ × List (List ℕ)). line ++ c.0) (no_cut 10 (body ++ more) not);
        bad = λ position fault. bad_stays body more position fault is.1;
      }
    ]

-- bytes that are all allowed and end in LF are one part
pub allowed_one : (front rest : List ℕ) (others : List (List ℕ)) → AreAllowed (front ++ 10 ∷ [])
    → cut_at_headings (10 ∷ rest) ≡ (10 ∷ [], others)
    → cut_at_headings (front ++ 10 ∷ rest) ≡ (front ++ 10 ∷ [], others)
allowed_one [] rest others allowed is = is
allowed_one (byte ∷ front) rest others allowed is =
    let good = All-tail (λ b. IsTrue (is_text_byte b)) byte (front ++ 10 ∷ []) allowed in
    no_cut byte (front ++ 10 ∷ rest) (λ e begun. no_digit front good (before_break front rest begun))
    ∙ rw (allowed_one front rest others good is) refl
  where
    no_digit : (bytes : List ℕ) → AreAllowed (bytes ++ 10 ∷ []) → ¬ (BeginsHeading bytes)
    no_digit bytes good begun =
        let long = heading_size bytes begun in
        let sixth = All-get_or (λ b. IsTrue (is_text_byte b)) (bytes ++ 10 ∷ []) 5 0 in
        let same = get_or-append bytes (10 ∷ []) 0 5 in
        grind (arith, nat_tests, BeginsHeading-bytes bytes begun, same, length-append bytes (10 ∷ []), sixth)

-- -------- the number of a part and the number of all parts, as they are written

-- no byte is below `least`
abbrev AreBytesFrom : ℕ → List ℕ → Type 0
AreBytesFrom least text = All (λ b. least ≤ b) text

AreBytesFrom-weaker : (least low : ℕ) (text : List ℕ) → low ≤ least → AreBytesFrom least text → AreBytesFrom low text
AreBytesFrom-weaker least low text less from = grind (arith, All-weaker)

number_from : (number : ℕ) → number < 2 ^ 64 → AreBytesFrom 48 (decimal number)
number_from number small =
    All-from_get_or (λ b. 48 ≤ b) (decimal number) 0
    (λ i inside. (digits_decimal IsNumeralModel-digits number small i inside).0)

letters_from : (letters : List ℕ) → AreBytesFrom 65 (letters_text letters)
letters_from letters = All-map (λ b. 65 ≤ b) (λ l. l + 65) letters (λ k d inside. omega arith)

fraction_from : (part parts : ℕ) → part < 2 ^ 64 → parts < 2 ^ 64 → AreBytesFrom 47 (fraction_text part parts)
fraction_from part parts small few = grind (arith, common_steps, All-append, All-push, AreBytesFrom-weaker, number_from)

-- if texts are equal, and each is a number, `byte`, which isn't a digit, and a rest, both numbers and both rests
-- are equal
one_number : (number found byte : ℕ) (rest more : List ℕ) → number < 2 ^ 64 → found < 2 ^ 64 → byte < 48
    → decimal number ++ byte ∷ rest ≡ decimal found ++ byte ∷ more → (number ≡ found) × (rest ≡ more)
one_number number found byte rest more small little low same =
    let both = same_front (λ b. 48 ≤ b) (decimal number) (decimal found) (byte ∷ rest) (byte ∷ more) in
    grind (arith, both, number_from, decimal_injective number found)

pub fraction_parts : (word one other : List ℕ) (part parts : ℕ) → IsFraction part parts → IsFirstPart 47 word one other
    → fraction_text part parts ≡ word → (decimal part ≡ one) × (decimal parts ≡ other)
fraction_parts word one other part parts number first is =
    search (rules, texts_determine_first_parts, All-weaker, number_from, append_assoc)

pub same_fraction : (word one other : List ℕ) (part parts found last : ℕ) → IsFraction part parts → found < 2 ^ 8
    → last < 2 ^ 8
    → IsFirstPart 47 word one other → decimal found ≡ one → decimal last ≡ other → fraction_text part parts ≡ word
    → (part ≡ found) × (parts ≡ last)
same_fraction word one other part parts found last number small few first read also is =
    let both = fraction_parts word one other part parts number first is in
    grind (arith, both, decimal_injective part found, decimal_injective parts last)

-- -------- words of letters, letter by letter

pub record AreSpelled (word : List ℕ) (index : ℕ) (letters : List ℕ) : Type 0 where
  pub size : length letters ≡ index
  pub spelled : letters_text letters ≡ take index word
  pub within : All (λ letter. letter < 26) letters

pub capital_at : (word others : List ℕ) (index : ℕ) → index < length word → AreFewLetters others
    → letters_text others ≡ word → (65 ≤ get_or word index 0) × (get_or word index 0 ≤ 90)
capital_at word others index inside are same =
    grind (arith, length-map, get_or-map, All-get_or (λ l. l < 26) others index 0)

-- -------- the line of a heading, and its words

pub ruleset spelling = (capital_at, All-push)

pub at_most : (s : Day) (count : ℕ) → IsLetterCount s count → count ≤ 520
at_most s count e = grind arith

pub same_count : (s : Day) (count found : ℕ) (word : List ℕ) → IsLetterCount s count → found < 2 ^ 16
    → decimal count ≡ word → decimal found ≡ word → count ≡ found
same_count s count found word are small is read = grind (arith, decimal_injective, at_most)

-- the numbers of a heading are below 2^64
record IsSmallHeading (h : Heading) : Type 0 where
  part : h.part < 2 ^ 64
  parts : h.parts < 2 ^ 64
  letters : h.letters < 2 ^ 64

are_small : (s : Day) (h : Heading) → IsHeading s h → IsSmallHeading h
are_small s h is = omega (arith, is.number.in_order, is.number.few, at_most s h.letters is.letters)

-- ---- the words of a heading

ruleset as_words = (word_by_bytes, AreBytesFrom-weaker, letters_from, fraction_from, numbers_are_words)

module _ (s : Day) (found : Option ℕ) (h : Heading) (line : List ℕ)
    (has : MatchOption found (IsConverterDay s) (IsRotorDayWith s)) (is : IsHeading s h) where
  line_words : line_of (heading_words h) ≡ line → words_of line ≡ heading_words h
  line_words same =
      ap words_of (sym same) ∙ lines_split_into_words (heading_words h) (λ none. cc)
      (grind (arith, common_steps, are_small, as_words, length-append {A = ℕ}, All-cons, All-nil))

  pub too_many_words : 5 < length (words_of line) → line_of (heading_words h) ≢ line
  too_many_words many same = grind (arith, ap length (line_words same))

-- the answer is the heading that the line has, or `None` if the line isn't a heading
abbrev IsHeadingAnswer : Day → Option Heading → List ℕ → Type 0
IsHeadingAnswer s answer line =
    MatchOption answer ((h : Heading) → IsHeading s h → line_of (heading_words h) ≢ line)
    (λ h. IsHeading s h × (line_of (heading_words h) ≡ line))

pub IsHeadingAnswer-words : (s : Day) (found : Option ℕ) (line : List ℕ) (words shown : List (List ℕ))
    (answer : Option Heading) → MatchOption found (IsConverterDay s) (IsRotorDayWith s) → words ≡ words_of line
    → shown ≡ words → AreHeadingWords s shown answer → IsHeadingAnswer s answer line
IsHeadingAnswer-words s found line words shown None has are same told =
    λ h is line_is. told h is (sym (line_words s found h line has is line_is) ∙ sym are ∙ sym same)
IsHeadingAnswer-words s found line words shown (Some h) has are same told =
    (told.0, ap line_of (told.1 ∙ same ∙ are) ∙ parts_make_lines line)

-- ---- no byte of a heading's line is below the space

plain_end : (count : ℕ) (i : Option Indicator) → count < 2 ^ 64 → IsPlain (line_of (decimal count ∷ indicator_words i))
plain_end count i e = grind (arith, AreBytesFrom-weaker, number_from, plain_more, plain_letters)

pub plain_heading : (s : Day) (h : Heading) → IsHeading s h → IsPlain (line_of (heading_words h))
plain_heading s h is = grind (arith, are_small, plain_more, plain_text, AreBytesFrom-weaker, fraction_from, plain_end)

pub has_byte : (byte : ℕ) (before rest : List ℕ) → ¬ (IsWithout byte (before ++ byte ∷ rest))
has_byte byte before rest none =
    grind (arith, length-append before (byte ∷ rest), get_or-append_seam before byte rest 0)

-- ---- the line of a heading in a part

pub ended_heading : (s : Day) (front body : List ℕ) (h : Heading) → IsWithout 10 front → IsHeading s h
    → IsLineText front (line_of (heading_words h)) → HasHeading s (front ++ 10 ∷ body) h body
ended_heading s front body h unbroken is text = grind arith

-- the bytes before the first LF are the heading line, and the body follows it
pub heading_there : (s : Day) (front body : List ℕ) (h : Heading) (rest : List ℕ) → IsWithout 10 front
    → HasHeading s (front ++ 10 ∷ body) h rest → IsLineText front (line_of (heading_words h)) × (rest ≡ body)
heading_there s front body h rest unbroken has = grind (arith, texts_determine_first_parts, has_byte)

-- two texts that are the line without its CR are equal
one_line_text : (line text other : List ℕ) → IsLineText line text → IsLineText line other → text ≡ other
one_line_text line text other e d = grind (arith, append_cancel_right)

-- ---- the first 64 bytes of a line determine its heading

heading_length : (s : Day) (found : Option ℕ) (h : Heading) → MatchOption found (IsConverterDay s) (IsRotorDayWith s)
    → IsHeading s h → length (line_of (heading_words h)) ≤ 50
heading_length s found h has is =
    let count = length-decimal-le 3 h.letters in
    let one = length-decimal-le 2 h.part in
    let all = length-decimal-le 2 h.parts in
    grind (arith, are_small s h is, at_most s h.letters is.letters, count, one, all, length-append {A = ℕ}, length-map)

pub IsOpenHeading-line : (s : Day) (found : Option ℕ) (part line : List ℕ) (answer : Option Heading)
    → MatchOption found (IsConverterDay s) (IsRotorDayWith s) → IsHeadingAnswer s answer line → IsWithout 10 part
    → line ≡ take 64 part
    → MatchOption answer ((h : Heading) (body : List ℕ) → ¬ (HasHeading s part h body)) (λ h. HasHeading s part h [])
IsOpenHeading-line s found part line None has told unbroken kept = λ h body there.
    let is : line_of (heading_words h) ≡ part = grind (arith, has_byte) in
    let size = heading_length s found h has there.is_heading in
    told h there.is_heading (is ∙ sym (kept ∙ take_all 64 part (omega (arith, ap length is, size))))
IsOpenHeading-line s found part line (Some h) has told unbroken kept =
    let size = heading_length s found h has told.0 in
    let whole : line ≡ part = whole_line 64 part line kept (grind (arith, told.1, size)) in
    record { is_heading = told.0; first = inr (unbroken, cc (whole, told.1), refl) }

pub IsEndedHeading-line : (s : Day) (found : Option ℕ) (part line text : List ℕ) (answer : Option Heading)
    → MatchOption found (IsConverterDay s) (IsRotorDayWith s) → IsLineText line text → IsHeadingAnswer s answer text
    → IsWithout 10 part → line ≡ take 64 part
    → MatchOption answer ((h : Heading) (body : List ℕ) → ¬ (HasHeading s (part ++ 10 ∷ []) h body))
    (λ h. IsHeading s h × IsLineText part (line_of (heading_words h)))
IsEndedHeading-line s found part line text None has cut told unbroken kept = λ h body there.
    let shown = (heading_there s part [] h body unbroken there).0 in
    let size = heading_length s found h has there.is_heading in
    let whole : line ≡ part = kept ∙ take_all 64 part (grind (arith, shown, size, length-append {A = ℕ})) in
    told h there.is_heading (one_line_text part _ text shown (rw whole at cut))
IsEndedHeading-line s found part line text (Some h) has cut told unbroken kept =
    let size = heading_length s found h has told.0 in
    (told.0, rw (whole_line 64 part line kept (grind (arith, size, length-append {A = ℕ})), ← told.1) at cut)

-- -------- a part has one heading, and one body

-- if the ends of two heading lines are equal, so are their counts of letters and their indicators
one_end : (s : Day) (count found : ℕ) (i j : Option Indicator) → count < 2 ^ 64 → found < 2 ^ 64 → HasIndicator s i
    → HasIndicator s j → line_of (decimal count ∷ indicator_words i) ≡ line_of (decimal found ∷ indicator_words j)
    → (count ≡ found) × (i ≡ j)
one_end (Rotor s) count found (Some i) (Some j) small little has had same =
    let counts = one_number count found 32 _ _ small little (omega arith) same in
    let starts = same_word i.ground_setting j.ground_setting _ _ counts.1 in
    grind (arith, counts.0, starts.0, same_letters i.enciphered_key j.enciphered_key starts.1)
one_end s count found None None small little has had same = (decimal_injective count found small little same, refl)
one_end (Rotor s) count found _ _ small little has had same = search
one_end (Pin s) count found _ _ small little has had same = search

-- ---- the line and the body

one_first_line : (text line other rest more : List ℕ) → HasFirstLine text line rest → HasFirstLine text other more
    → (line ≡ other) × (rest ≡ more)
one_first_line text line other rest more a b =
    grind (arith, common_steps, texts_determine_first_parts, one_line_text, has_byte)

pub one_heading : (s : Day) (part : List ℕ) (h other : Heading) (body rest : List ℕ) → HasHeading s part h body
    → HasHeading s part other rest → (h ≡ other) × (body ≡ rest)
one_heading s part h other body rest a b =
    let same = one_first_line part _ _ body rest a.first b.first in
    (grind (arith, same, are_small, one_number, append_assoc, one_end), same.1)

-- the line of a heading begins with PART, a space and a digit
pub words_begin : (s : Day) (h : Heading) (more : List ℕ) → IsHeading s h
    → BeginsHeading (line_of (heading_words h) ++ more)
words_begin s h more is =
    grind (arith, are_small, decimal_nonempty, digits_decimal, IsNumeralModel-digits, drop-cons, BeginsHeading-digit)

line_front : (text line rest : List ℕ) → HasFirstLine text line rest → (more : List ℕ) × (text ≡ line ++ more)
line_front text line rest e = grind (arith, append_assoc, append-nil)

pub begins_there : (s : Day) (part : List ℕ) (h : Heading) (body : List ℕ) → HasHeading s part h body
    → BeginsHeading part
begins_there s part h body has =
    let (more, is) =
    line_front part (line_of (heading_words h)) body has.first in rw is (words_begin s h more has.is_heading)
