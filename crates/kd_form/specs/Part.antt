-- A part of a form: its heading and its letters, and how they are written.
-- Test: long_texts_are_sent_and_received
use Rattle.std.specs.Prelude.{codes, decimal, ℕ, List, [], ◌∷◌, ◌++◌, length, map, Option, Some, None}
use Rattle.std.specs.List.{flat_map}
use Rattle.std.specs.Int.{div_ceil}
use Rattle.std.specs.Simd.{first_chunks}
use Rattle.kd_tables.specs.Text.{letters_text}
use Rattle.kd_tables.specs.LineWords.{line_then}
use Rattle.kd_form.specs.declared.heading.Heading.{Heading}
use Rattle.kd_form.specs.declared.heading.Indicator.{Indicator}

-- `letters` cut into pieces of `size` letters; the last piece may be shorter
abbrev pub pieces : ℕ → List ℕ → List (List ℕ)
pieces size letters = first_chunks size (div_ceil (length letters) size) letters

-- the number of a part and the number of all parts, as in `2/5`
abbrev pub fraction_text : ℕ → ℕ → List ℕ
fraction_text part parts = decimal part ++ codes "/" ++ decimal parts

-- an indicator as words: the ground setting and the enciphered message key. Without an indicator, there are no words.
abbrev pub indicator_words : Option Indicator → List (List ℕ)
indicator_words (Some indicator) = letters_text indicator.ground_setting ∷ letters_text indicator.enciphered_key ∷ []
indicator_words None = []

-- the words of a heading line
abbrev pub heading_words : Heading → List (List ℕ)
heading_words h = codes "PART" ∷ fraction_text h.part h.parts ∷ decimal h.letters ∷ indicator_words h.indicator

-- the words of a line of a body: groups of five letters; the last group may be shorter
abbrev pub letter_groups : List ℕ → List (List ℕ)
letter_groups letters = map letters_text (pieces 5 letters)

-- the lines of a body: ten groups of five letters a line; the last line may be shorter
abbrev pub body_text : List ℕ → List ℕ
body_text letters = flat_map (λ line. line_then (letter_groups line) []) (pieces 50 letters)

-- A part: its heading and the letters of its body.
pub record Part : Type 0 where
  pub heading : Heading
  pub body : List ℕ

-- a part as it is written: its heading line, and the lines of its body
abbrev pub part_text : Part → List ℕ
part_text part = line_then (heading_words part.heading) (body_text part.body)

-- ---- What the code holds. No public contract cites these definitions.

-- the words, with a space before each
abbrev pub words_after_spaces : List (List ℕ) → List ℕ
words_after_spaces words = flat_map (λ word. 32 ∷ word) words
