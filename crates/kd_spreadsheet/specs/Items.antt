-- The values in the cells of a table: numbers, wheels, letters, pairs and groups. Gaps between the values are left out
-- (see `is_gap`).
-- Test: tests/cases/curator-sheet.toml
use Rattle.std.specs.Prelude.{ℕ, nat_le, nat_eq, ◌+◌, ◌-◌, ◌*◌, ◌==◌, ◌&&◌, Bool, List, [], ◌∷◌, length, map, Option, Some, None}
use Rattle.std.specs.Prelude.{if◌then◌else◌, false, not, filter}
use Rattle.std.specs.List.{list_all, flat_map}
use Rattle.std.specs.Option.{option_and_then, option_map}
use Rattle.kd_tables.specs.declared.wheel.Wheel.{Wheel}
use Rattle.kd_tables.specs.LineWords.{words_of}
use Rattle.kd_sheet.specs.Bars.{reading_of_text}
use Rattle.kd_spreadsheet.specs.declared.items.WordRule.{WordRule}
use Rattle.kd_spreadsheet.specs.declared.items.WordRule.TheVariants as word_rules
use Rattle.kd_spreadsheet.specs.Names.{capital, is_digit, is_gap, is_capital_letter, wheel_named}

abbrev pub is_blank : List ℕ → Bool
is_blank cell = list_all is_gap cell

-- the byte in normal form: a space for a gap, the capital letter for a small letter, otherwise the byte itself
abbrev pub normal : ℕ → ℕ
normal byte = if is_gap byte then 32 else capital byte

-- How a cell is split into words. `keeps` says which bytes stay as they are; all others get their normal form. `alone`
-- says which bytes are words by themselves.
pub record Bytes : Type 0 where
  pub keeps : ℕ → Bool
  pub alone : ℕ → Bool

-- The bytes of a cell in normal form. A space stands after each byte that is a word by itself: the letters `ABC` become
-- `A B C `.
abbrev pub item_text : Bytes → List ℕ → List ℕ
item_text bytes cell =
    flat_map (λ byte. if bytes.alone byte then byte ∷ 32 ∷ [] else byte ∷ [])
    (map (λ byte. if bytes.keeps byte then byte else normal byte) cell)

-- The words of a cell; some words may be empty. `None` if the cell has more than 192 bytes, or more than 192 words.
abbrev pub cell_words : Bytes → List ℕ → Option (List (List ℕ))
cell_words bytes cell =
    if nat_le (length cell) 192 && nat_le (length (words_of (item_text bytes cell))) 192
    then Some (words_of (item_text bytes cell)) else None

-- The values of all words that aren't empty. `None` if one of these words can't be read as a value.
abbrev pub values_of_words : {A : Type 0} → (List ℕ → Option A) → List (List ℕ) → Option (List A)
values_of_words parse [] = Some []
values_of_words parse ([] ∷ rest) = values_of_words parse rest
values_of_words parse ((byte ∷ word) ∷ rest) =
    option_and_then (λ value. option_map (λ values. value ∷ values) (values_of_words parse rest)) (parse (byte ∷ word))

-- The values of a cell's words, as `parse` reads them. `None` if a word can't be read as a value, or the cell is too
-- long.
abbrev pub values_in : {A : Type 0} → Bytes → (List ℕ → Option A) → List ℕ → Option (List A)
values_in bytes parse cell = option_and_then (values_of_words parse) (cell_words bytes cell)

-- ---- Words.

abbrev pub digit_of : ℕ → Option ℕ
digit_of byte = if is_digit byte then Some (byte - 48) else None

-- the number that a word of one or two digits means
abbrev pub number_of : List ℕ → Option ℕ
number_of (one ∷ []) = digit_of one
number_of (one ∷ other ∷ []) =
    option_and_then (λ tens. option_map (λ ones. 10 * tens + ones) (digit_of other)) (digit_of one)
number_of _ = None

abbrev pub letter_of : ℕ → Option ℕ
letter_of byte = if is_capital_letter byte then Some (byte - 65) else None

abbrev pub pair_of : List ℕ → Option (ℕ × ℕ)
pair_of (one ∷ other ∷ []) =
    option_and_then (λ letter. option_map (λ more. (letter, more)) (letter_of other)) (letter_of one)
pair_of _ = None

abbrev pub group_of : List ℕ → Option (List ℕ)
group_of (one ∷ two ∷ three ∷ []) =
    option_and_then (λ a. option_and_then (λ b. option_map (λ c. a ∷ b ∷ c ∷ []) (letter_of three)) (letter_of two))
    (letter_of one)
group_of _ = None

abbrev pub slot_of : List ℕ → Option (Option Wheel)
slot_of word = option_map (λ wheel. Some wheel) (wheel_named word)

abbrev pub numbered_letter : Option ℕ → Option ℕ
numbered_letter number =
    option_and_then (λ n. if nat_le 1 n && nat_le n 26 then Some (n - 1) else None) number

-- The letter that a word means. The word is a capital letter, or a number from 1 (A) to 26 (Z).
abbrev pub ring_of_word : List ℕ → Option ℕ
ring_of_word (byte ∷ []) = if is_capital_letter byte then Some (byte - 65) else numbered_letter (number_of (byte ∷ []))
ring_of_word word = numbered_letter (number_of word)

-- ---- Cells.

abbrev pub single : {A : Type 0} → List A → Option A
single (x ∷ []) = Some x
single _ = None

-- the rule for cells whose words are separated by gaps, such as cells of numbers or pairs
abbrev pub words : Bytes
words = record { keeps = λ byte. false; alone = λ byte. false }

-- the rule for cells of letters: each letter is a word by itself, and gaps separate numbers
abbrev pub letters : Bytes
letters = record { keeps = λ byte. false; alone = is_capital_letter }

-- the rule for cells whose words have hyphens, such as the reading `0-1`; a hyphen isn't a gap
abbrev pub hyphened : Bytes
hyphened = record { keeps = λ byte. byte == 45; alone = λ byte. false }

-- the number in a cell whose only word is a number; for any other cell, `None`
abbrev pub number_in : List ℕ → Option ℕ
number_in cell = option_and_then single (values_in words number_of cell)

abbrev pub wheels_in : List ℕ → Option (List (Option Wheel))
wheels_in cell = values_in words slot_of cell

-- The letters in a cell. A number from 1 to 26 means a letter, too: `ABC`, `a b c`, `01-02-03` and `1, 2, 3` mean the
-- same letters.
abbrev pub letters_in : List ℕ → Option (List ℕ)
letters_in cell = values_in letters ring_of_word cell

abbrev pub pairs_in : List ℕ → Option (List (ℕ × ℕ))
pairs_in cell = values_in words pair_of cell

abbrev pub groups_in : List ℕ → Option (List (List ℕ))
groups_in cell = values_in words group_of cell

abbrev pub readings_in : List ℕ → Option (List (ℕ × ℕ))
readings_in cell = values_in hyphened reading_of_text cell

-- the list `values`; `None` if it doesn't have exactly `count` values
abbrev pub exactly : {A : Type 0} → ℕ → List A → Option (List A)
exactly count values = if nat_eq (length values) count then Some values else None

-- the bytes of a cell in normal form, without gaps; `None` if the cell has more than 192 bytes
abbrev pub joined : List ℕ → Option (List ℕ)
joined cell =
    if nat_le (length cell) 192 then Some (filter (λ byte. not (byte == 32)) (map normal cell)) else None

-- ---- The names of the rules in the code. No public contract cites this definition.

abbrev pub bytes_of : WordRule → Bytes
bytes_of word_rules.Gaps = words
bytes_of word_rules.Letters = letters
bytes_of word_rules.Hyphens = hyphened
