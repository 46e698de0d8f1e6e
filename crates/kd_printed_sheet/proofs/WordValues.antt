-- Each word of a cell is read as the value that it was written for, and its bytes are plain.
use Rattle.std.proofs.Common.{◌≡◌, ◌<◌, ◌≤◌, ◌+◌, ◌*◌, ◌-◌, ◌/◌, ◌%◌, ◌==◌, ◌++◌, ◌∷◌, ◌∙◌, [], ℕ, true, false, List, Some, arith, codes, inl, inr, length, nat_lt, option_map, refl, subst, sym}
use Rattle.std.specs.Prelude.{decimal, flat_map, if◌then◌else◌}
use Rattle.std.specs.List.{AllByRecursion}
use Rattle.std.proofs.lemmas.Bool.Decides.{nat_tests}
use Rattle.std.proofs.lemmas.Bool.{cases_eq, cases_lt, eq-eqb, le-leb, le-ltb, lt-ltb, ne_eqb}
use Rattle.std.proofs.lemmas.List.Folds.{list_any-append}
use Rattle.std.proofs.lemmas.Fmt.{decimal_digit, decimal_step}
use Rattle.std.proofs.Math.Bool.{or-true}
use Rattle.csv.specs.Writing.{default_writer, needs_byte}
use Rattle.kd_tables.specs.Places.{IsReading, reading_text}
use Rattle.kd_tables.specs.Tables.{wheel_text}
use Rattle.kd_tables.specs.Text.{letters_text}
use Rattle.kd_tables.specs.declared.wheel.Wheel.{Wheel}
use Rattle.kd_tables.specs.declared.wheel.Wheel.TheVariants.{I, II, III, IV, V, VI, VII, VIII, Beta, Gamma}
unfoldable use Rattle.kd_sheet.specs.Bars.{reading_of_text}
use Rattle.kd_pictures.specs.Template.{letter_text, ordinal_text}
use Rattle.kd_spreadsheet.specs.Items.{group_of, hyphened, is_blank, letters, number_of, pair_of, ring_of_word, slot_of, words}
unfoldable use Rattle.kd_spreadsheet.specs.Names.{is_named}
use Rattle.kd_spreadsheet.specs.Names.{capital, is_capital_letter, is_digit, is_gap}
use Rattle.kd_printed_sheet.proofs.CellWords.{IsWordOf, Stays, read_words, word_is}
use Rattle.kd_printed_sheet.proofs.PlainCells.{IsPlain}
use Rattle.kd_printed_sheet.specs.Words.{group_text, pair_text, spaced, words_text}

-- ---- the bytes of letters and digits

-- what the byte of a letter is: no mark, no gap, a capital letter
pub record IsLetterByte (letter byte : ℕ) : Type 0 where
  pub gap : is_gap byte ≡ false
  pub same : capital byte ≡ byte
  pub large : is_capital_letter byte ≡ true
  pub value : byte - 65 ≡ letter
  pub no_space : (byte == 32) ≡ false
  pub plain : needs_byte default_writer byte ≡ false

pub letter_is_byte : (letter : ℕ) → letter < 26 → IsLetterByte letter (letter + 65)
letter_is_byte letter within = record {
  gap = grind (arith, nat_tests, ne_eqb);
  same = grind (arith, nat_tests);
  large = grind (arith, nat_tests, le-leb);
  value = omega arith;
  no_space = ne_eqb (letter + 65) 32 (λ e. omega arith);
  plain = grind (arith, nat_tests, ne_eqb);
}

-- what the byte of a digit is: no mark, no gap, no letter
record IsDigitByte (digit byte : ℕ) : Type 0 where
  gap : is_gap byte ≡ false
  same : capital byte ≡ byte
  joins : is_capital_letter byte ≡ false
  numeral : is_digit byte ≡ true
  value : byte - 48 ≡ digit
  no_space : (byte == 32) ≡ false
  no_hyphen : (byte == 45) ≡ false
  plain : needs_byte default_writer byte ≡ false

digit_byte : (digit : ℕ) → digit < 10 → IsDigitByte digit (48 + digit)
digit_byte digit within = record {
  gap = grind (arith, nat_tests, ne_eqb);
  same = grind (arith, nat_tests);
  joins = grind (arith, nat_tests);
  numeral = grind (arith, nat_tests, le-leb);
  value = omega arith;
  no_space = ne_eqb (48 + digit) 32 (λ e. omega arith);
  no_hyphen = ne_eqb (48 + digit) 45 (λ e. omega arith);
  plain = grind (arith, nat_tests, ne_eqb);
}

-- ---- letters

letter_stays : (letter : ℕ) → letter < 26 → Stays words (letter + 65)
letter_stays letter within =
    let is = letter_is_byte letter within in
    record { same = rw (is.gap, is.same) refl; joins = refl; no_space = is.no_space }

-- a letter is read as itself, whatever comes after it
pub letter_first : (letter : ℕ) (rest : List ℕ) → letter < 26
    → read_words letters ring_of_word ((letter + 65) ∷ rest)
    ≡ option_map (λ values. letter ∷ values) (read_words letters ring_of_word rest)
letter_first letter rest within =
    let is = letter_is_byte letter within in
    rw (is.gap, is.same, is.large, is.no_space, is.large, is.value) refl

pub letter_is : (letter : ℕ) → letter < 26 → IsWordOf letters ring_of_word (letter_text letter) letter
letter_is letter within = record {
  last = letter_first letter [] within;
  before = λ rest. letter_first letter (32 ∷ rest) within;
}

pub pair_is : (pair : ℕ × ℕ) → pair.0 < 26 → pair.1 < 26 → IsWordOf words pair_of (pair_text pair) pair
pair_is pair first second =
    let one = letter_is_byte pair.0 first in
    let other = letter_is_byte pair.1 second in
    word_is words refl refl pair_of (pair.0 + 65) ((pair.1 + 65) ∷ []) pair
    (letter_stays pair.0 first, (letter_stays pair.1 second, tt))
    (rw (one.large, other.large, one.value, other.value) refl)

pub group_is : (a b c : ℕ) → a < 26 → b < 26 → c < 26
    → IsWordOf words group_of (group_text (a ∷ b ∷ c ∷ [])) (a ∷ b ∷ c ∷ [])
group_is a b c first second third =
    let one = letter_is_byte a first in
    let two = letter_is_byte b second in
    let three = letter_is_byte c third in
    word_is words refl refl group_of (a + 65) ((b + 65) ∷ (c + 65) ∷ []) (a ∷ b ∷ c ∷ [])
    (letter_stays a first, (letter_stays b second, (letter_stays c third, tt)))
    (rw (one.large, two.large, three.large, one.value, two.value, three.value) refl)

-- a cell that begins with a letter isn't blank
pub letter_seen : (letter : ℕ) → letter < 26 → is_gap (letter + 65) ≡ false
letter_seen letter within = (letter_is_byte letter within).gap

pub letters_plain : (text : List ℕ) → AllByRecursion (λ letter. letter < 26) text → IsPlain (letters_text text)
letters_plain [] within = refl
letters_plain (letter ∷ text) within =
    rw ((letter_is_byte letter within.0).plain, letters_plain text within.1) refl

-- ---- plain words make a plain cell

plain_append : (text more : List ℕ) → IsPlain text → IsPlain more → IsPlain (text ++ more)
plain_append text more first rest = rw (list_any-append (needs_byte default_writer) text more, first, rest) refl

spaced_plain : {X : Type 0} (text : X → List ℕ) (ws : List X) → AllByRecursion (λ w. IsPlain (text w)) ws
    → IsPlain (flat_map (spaced text) ws)
spaced_plain text [] plain = refl
spaced_plain text (word ∷ more) plain =
    plain_append (text word) (flat_map (spaced text) more) plain.0 (spaced_plain text more plain.1)

pub words_plain : {X : Type 0} (text : X → List ℕ) (ws : List X) → AllByRecursion (λ w. IsPlain (text w)) ws
    → IsPlain (words_text text ws)
words_plain text [] plain = refl
words_plain text (word ∷ more) plain =
    plain_append (text word) (flat_map (spaced text) more) plain.0 (spaced_plain text more plain.1)

-- ---- wheels

pub wheel_is : (wheel : Wheel) → IsWordOf words slot_of (wheel_text wheel) (Some wheel)
unfolding is_named
wheel_is I = record { last = refl; before = λ rest. refl }
wheel_is II = record { last = refl; before = λ rest. refl }
wheel_is III = record { last = refl; before = λ rest. refl }
wheel_is IV = record { last = refl; before = λ rest. refl }
wheel_is V = record { last = refl; before = λ rest. refl }
wheel_is VI = record { last = refl; before = λ rest. refl }
wheel_is VII = record { last = refl; before = λ rest. refl }
wheel_is VIII = record { last = refl; before = λ rest. refl }
wheel_is Beta = record { last = refl; before = λ rest. refl }
wheel_is Gamma = record { last = refl; before = λ rest. refl }

pub wheel_plain : (wheel : Wheel) → IsPlain (wheel_text wheel) × (length (wheel_text wheel) ≤ 5)
wheel_plain wheel = grind arith

-- ---- numbers

-- one digit, or two
data Digits : ℕ → List ℕ → Type 0 where
  One : (digit : ℕ) → digit < 10 → Digits digit ((48 + digit) ∷ [])
  Two : (tens ones : ℕ) → 1 ≤ tens → tens < 10 → ones < 10
      → Digits (10 * tens + ones) ((48 + tens) ∷ (48 + ones) ∷ [])

digits_are : (number : ℕ) → number < 100 → Digits number (decimal number)
digits_are number within = elim (cases_lt number 10) [
  | inl small ↦ subst (Digits number) (sym (decimal_digit number small)) (One number small)
  | inr large ↦
      let tens : number / 10 < 10 = omega arith in
      let text : decimal number ≡ (48 + number / 10) ∷ (48 + number % 10) ∷ [] =
      decimal_step number (omega arith) (omega arith) ∙ rw (decimal_digit (number / 10) tens) refl in
      let value : 10 * (number / 10) + number % 10 ≡ number = omega arith in
      subst (λ n. Digits n (decimal number)) value
      (subst (Digits (10 * (number / 10) + number % 10)) (sym text)
      (Two (number / 10) (number % 10) (omega arith) tens (omega arith)))
]

-- What a reader sees of a number's text.
pub record IsNumberText (number : ℕ) (text : List ℕ) : Type 0 where
  pub value : number_of text ≡ Some number
  pub word : IsWordOf words number_of text number
  pub seen : is_blank text ≡ false
  pub plain : IsPlain text
  pub short : length text ≤ 2

number_stays : (digit : ℕ) → digit < 10 → Stays words (48 + digit)
number_stays digit within =
    let is = digit_byte digit within in
    record { same = rw (is.gap, is.same) refl; joins = refl; no_space = is.no_space }

number_text : (number : ℕ) (text : List ℕ) → Digits number text → IsNumberText number text
number_text _ _ (One digit within) =
    let is = digit_byte digit within in
    let read : number_of ((48 + digit) ∷ []) ≡ Some digit = rw (is.numeral, is.value) refl in
    record {
      value = read;
      word = word_is words refl refl number_of (48 + digit) [] digit (number_stays digit within, tt) read;
      seen = rw is.gap refl;
      plain = rw is.plain refl;
      short = omega arith;
    }
number_text _ _ (Two tens ones some high low) =
    let ten = digit_byte tens high in
    let one = digit_byte ones low in
    let read : number_of ((48 + tens) ∷ (48 + ones) ∷ []) ≡ Some (10 * tens + ones) =
    rw (ten.numeral, one.numeral, ten.value, one.value) refl in
    record {
      value = read;
      word = word_is words refl refl number_of (48 + tens) ((48 + ones) ∷ []) (10 * tens + ones)
          (number_stays tens high, (number_stays ones low, tt)) read;
      seen = rw ten.gap refl;
      plain = rw (ten.plain, one.plain) refl;
      short = omega arith;
    }

pub number_is : (number : ℕ) → number < 100 → IsNumberText number (decimal number)
number_is number within = number_text number (decimal number) (digits_are number within)

-- ---- rings by their numbers

ring_stays : (digit : ℕ) → digit < 10 → Stays letters (48 + digit)
ring_stays digit within =
    let is = digit_byte digit within in
    record { same = rw (is.gap, is.same) refl; joins = is.joins; no_space = is.no_space }

-- What a reader sees of a ring's number, of two digits.
pub record IsRingText (ring : ℕ) (text : List ℕ) : Type 0 where
  pub word : IsWordOf letters ring_of_word text ring
  pub plain : IsPlain text
  pub short : length text ≤ 2

two_digits : (tens ones ring : ℕ) → tens < 10 → ones < 10 → 10 * tens + ones ≡ ring + 1 → ring < 26
    → IsRingText ring ((48 + tens) ∷ (48 + ones) ∷ [])
two_digits tens ones ring high low is within =
    let ten = digit_byte tens high in
    let one = digit_byte ones low in
    let first = le-leb 1 (ring + 1) (omega arith) in
    let last = le-leb (ring + 1) 26 (omega arith) in
    let value : ring + 1 - 1 ≡ ring = omega arith in
    record {
      word = word_is letters refl refl ring_of_word (48 + tens) ((48 + ones) ∷ []) ring
          (ring_stays tens high, (ring_stays ones low, tt))
          (rw (ten.numeral, one.numeral, ten.value, one.value, is, first, last, value) refl);
      plain = rw (ten.plain, one.plain) refl;
      short = omega arith;
    }

ring_digits : (ring number : ℕ) (text : List ℕ) → number ≡ ring + 1 → ring < 26 → Digits number text
    → IsRingText ring ((if nat_lt number 10 then codes "0" else []) ++ text)
ring_digits ring _ _ is within (One digit small) =
    rw (lt-ltb digit 10 small) (two_digits 0 digit ring (omega arith) small (omega arith) within)
ring_digits ring _ _ is within (Two tens ones some high low) =
    rw (le-ltb (10 * tens + ones) 10 (omega arith)) (two_digits tens ones ring high low is within)

pub ring_is : (ring : ℕ) → ring < 26 → IsRingText ring (ordinal_text ring)
ring_is ring within = ring_digits ring (ring + 1) (decimal (ring + 1)) refl within (digits_are (ring + 1) (omega arith))

-- ---- readings

reading_stays : (digit : ℕ) → digit < 10 → Stays hyphened (digit + 48)
reading_stays digit within =
    let is = digit_byte digit within in
    let turned : digit + 48 ≡ 48 + digit = omega arith in
    rw turned (record { same = rw (is.no_hyphen, is.gap, is.same) refl; joins = refl; no_space = is.no_space })

hyphen_stays : Stays hyphened 45
hyphen_stays = record { same = refl; joins = refl; no_space = refl }

reading_again : (reading : ℕ × ℕ) → IsReading reading → reading_of_text (reading_text reading) ≡ Some reading
unfolding reading_of_text
reading_again reading is = grind (arith, le-leb, cases_eq, eq-eqb, is.equal, or-true, ne_eqb)

pub reading_is : (reading : ℕ × ℕ) → IsReading reading
    → IsWordOf hyphened reading_of_text (reading_text reading) reading
reading_is reading is =
    let ordered = is.ordered in
    let within = is.within in
    word_is hyphened refl refl reading_of_text (reading.0 + 48) (45 ∷ (reading.1 + 48) ∷ []) reading
    (reading_stays reading.0 (omega arith), (hyphen_stays, (reading_stays reading.1 (omega arith), tt)))
    (reading_again reading is)

pub reading_plain : (reading : ℕ × ℕ) → IsReading reading → IsPlain (reading_text reading)
reading_plain reading is =
    let ordered = is.ordered in
    let within = is.within in
    grind (arith, nat_tests, ne_eqb)
