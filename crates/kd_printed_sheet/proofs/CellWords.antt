-- A cell of words, with a space between each two, is read as the values of the words.
use Rattle.std.proofs.Common.{◌≡◌, ◌≤◌, ◌+◌, ◌*◌, ◌==◌, ◌++◌, ◌∷◌, ◌∙◌, [], ℕ, false, List, Option, Some, ap, arith, inl, inr, length, length-append, map, option_map, refl}
use Rattle.std.specs.Prelude.{flat_map, if◌then◌else◌}
use Rattle.std.specs.List.{AllByRecursion}
use Rattle.std.proofs.lemmas.Bool.{cases_Bool, le-leb}
use Rattle.std.proofs.lemmas.List.{append-nil}
use Rattle.std.proofs.lemmas.List.Splits.{length-slice_split}
use Rattle.std.proofs.lemmas.List.Sums.{count_by-le-length}
use Rattle.kd_tables.specs.LineWords.{words_of}
use Rattle.kd_spreadsheet.specs.Items.{Bytes, hyphened, item_text, letters, normal, values_in, values_of_words, words}
use Rattle.kd_spreadsheet.specs.Names.{is_capital_letter}
use Rattle.kd_printed_sheet.specs.Words.{spaced, words_text}

-- the values of the words of a cell, however long the cell is
abbrev pub read_words : {A : Type 0} → Bytes → (List ℕ → Option A) → List ℕ → Option (List A)
read_words bytes parse cell = values_of_words parse (words_of (item_text bytes cell))

-- In cells of this sort, the byte is part of a word, as it is.
pub record Stays (bytes : Bytes) (byte : ℕ) : Type 0 where
  pub same : (if bytes.keeps byte then byte else normal byte) ≡ byte
  pub joins : bytes.alone byte ≡ false
  pub no_space : (byte == 32) ≡ false

-- The text is read as this value: at the end of a cell, and before a space.
pub record IsWordOf {A : Type 0} (bytes : Bytes) (parse : List ℕ → Option A) (text : List ℕ) (value : A) : Type 0 where
  pub last : read_words bytes parse text ≡ Some (value ∷ [])
  pub before : (rest : List ℕ) → read_words bytes parse (text ++ 32 ∷ rest)
      ≡ option_map (λ values. value ∷ values) (read_words bytes parse rest)

-- ---- one word

module _ (bytes : Bytes) (unkept : bytes.keeps 32 ≡ false) (joined : bytes.alone 32 ≡ false) where
  word_before : (word rest : List ℕ) → AllByRecursion (Stays bytes) word
      → words_of (item_text bytes (word ++ 32 ∷ rest)) ≡ word ∷ words_of (item_text bytes rest)
  word_before [] rest stay = rw (unkept, joined) refl
  word_before (byte ∷ word) rest stay =
      rw (stay.0.same, stay.0.joins, stay.0.no_space, word_before word rest stay.1) refl

  word_last : (word : List ℕ) → AllByRecursion (Stays bytes) word → words_of (item_text bytes word) ≡ word ∷ []
  word_last [] stay = refl
  word_last (byte ∷ word) stay = rw (stay.0.same, stay.0.joins, stay.0.no_space, word_last word stay.1) refl

  -- a word whose bytes stay as they are is read as its value
  pub word_is : {A : Type 0} (parse : List ℕ → Option A) (byte : ℕ) (word : List ℕ) (value : A)
      → AllByRecursion (Stays bytes) (byte ∷ word) → parse (byte ∷ word) ≡ Some value
      → IsWordOf bytes parse (byte ∷ word) value
  word_is parse byte word value stay is = record {
    last = ap (values_of_words parse) (word_last (byte ∷ word) stay) ∙ rw is refl;
    before = λ rest. ap (values_of_words parse) (word_before (byte ∷ word) rest stay) ∙ rw is refl;
  }

-- ---- many words

module _ {A X : Type 0} (bytes : Bytes) (parse : List ℕ → Option A) (text : X → List ℕ) (value : X → A) where
  pub words_read : (word : X) (more : List X) → AllByRecursion (λ w. IsWordOf bytes parse (text w) (value w)) (word ∷ more)
      → read_words bytes parse (words_text text (word ∷ more)) ≡ Some (map value (word ∷ more))
  words_read word [] are = rw (append-nil (text word)) are.0.last
  words_read word (next ∷ more) are =
      are.0.before (text next ++ flat_map (spaced text) more)
      ∙ ap (option_map (λ values. value word ∷ values)) (words_read next more are.1)

  -- ---- short cells

  -- words of at most five bytes
  pub words_short : (ws : List X) → AllByRecursion (λ w. length (text w) ≤ 5) ws
      → length (words_text text ws) ≤ 6 * length ws + 1
  words_short [] short = omega arith
  words_short (word ∷ []) short = let first = short.0 in omega (arith, length-append (text word) [])
  words_short (word ∷ next ∷ more) short =
      let first = short.0 in
      let rest = words_short (next ∷ more) short.1 in
      omega (
        arith,
        length-append (text word) (flat_map (spaced text) (next ∷ more)),
        length-append (text next) (flat_map (spaced text) more),
      )

few_words : (text : List ℕ) → length (words_of text) ≤ length text + 1
few_words text =
    omega (arith, length-slice_split (λ byte. byte == 32) text, count_by-le-length (λ byte. byte == 32) text)

short_is_read : {A : Type 0} (bytes : Bytes) (parse : List ℕ → Option A) (cell : List ℕ) → length cell ≤ 192
    → length (item_text bytes cell) ≤ 191 → values_in bytes parse cell ≡ read_words bytes parse cell
short_is_read bytes parse cell short few =
    rw (
      le-leb (length cell) 192 short,
      le-leb (length (words_of (item_text bytes cell))) 192 (omega (arith, few_words (item_text bytes cell))),
    ) refl

words_length : (cell : List ℕ) → length (item_text words cell) ≡ length cell
words_length [] = refl
words_length (byte ∷ cell) = omega (arith, words_length cell)

hyphened_length : (cell : List ℕ) → length (item_text hyphened cell) ≡ length cell
hyphened_length [] = refl
hyphened_length (byte ∷ cell) = omega (arith, hyphened_length cell)

letters_length : (cell : List ℕ) → length (item_text letters cell) ≤ 2 * length cell
letters_length [] = omega arith
letters_length (byte ∷ cell) = elim (cases_Bool (is_capital_letter (normal byte))) [
  | inl alone ↦ rw alone (omega (arith, letters_length cell))
  | inr joins ↦ rw joins (omega (arith, letters_length cell))
]

pub short_words : {A : Type 0} (parse : List ℕ → Option A) (cell : List ℕ) → length cell ≤ 191
    → values_in words parse cell ≡ read_words words parse cell
short_words parse cell short =
    short_is_read words parse cell (omega arith) (omega (arith, words_length cell))

pub short_hyphened : {A : Type 0} (parse : List ℕ → Option A) (cell : List ℕ) → length cell ≤ 191
    → values_in hyphened parse cell ≡ read_words hyphened parse cell
short_hyphened parse cell short =
    short_is_read hyphened parse cell (omega arith) (omega (arith, hyphened_length cell))

pub short_letters : {A : Type 0} (parse : List ℕ → Option A) (cell : List ℕ) → length cell ≤ 95
    → values_in letters parse cell ≡ read_words letters parse cell
short_letters parse cell short =
    short_is_read letters parse cell (omega arith) (omega (arith, letters_length cell))

-- ---- whole cells

module _ {A X : Type 0} (parse : List ℕ → Option A) (text : X → List ℕ) (value : X → A) where
  -- a cell of words; a hyphen is a cell without words
  pub words_cell : (ws : List X) → length ws ≤ 27 → AllByRecursion (λ w. length (text w) ≤ 5) ws
      → AllByRecursion (λ w. IsWordOf words parse (text w) (value w)) ws
      → values_in words parse (words_text text ws) ≡ Some (map value ws)
  words_cell [] few short are = refl
  words_cell (word ∷ more) few short are =
      short_words parse (words_text text (word ∷ more)) (omega (arith, words_short words parse text value (word ∷ more) short))
      ∙ words_read words parse text value word more are

  -- a cell of letters
  pub letters_cell : (ws : List X) → length ws ≤ 13 → AllByRecursion (λ w. length (text w) ≤ 5) ws
      → AllByRecursion (λ w. IsWordOf letters parse (text w) (value w)) ws
      → values_in letters parse (words_text text ws) ≡ Some (map value ws)
  letters_cell [] few short are = refl
  letters_cell (word ∷ more) few short are =
      short_letters parse (words_text text (word ∷ more)) (omega (arith, words_short letters parse text value (word ∷ more) short))
      ∙ words_read letters parse text value word more are

  -- a cell of words that may have hyphens
  pub hyphened_cell : (word : X) (more : List X) → length (word ∷ more) ≤ 27
      → AllByRecursion (λ w. length (text w) ≤ 5) (word ∷ more)
      → AllByRecursion (λ w. IsWordOf hyphened parse (text w) (value w)) (word ∷ more)
      → values_in hyphened parse (words_text text (word ∷ more)) ≡ Some (map value (word ∷ more))
  hyphened_cell word more few short are =
      short_hyphened parse (words_text text (word ∷ more)) (omega (arith, words_short hyphened parse text value (word ∷ more) short))
      ∙ words_read hyphened parse text value word more are
