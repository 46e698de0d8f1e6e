-- The words for a file that isn't TOML: the line and the column at which the parser found a fault.
-- Source: TOML 1.1, toml.io; UTF-8, RFC 3629.
-- Test: tests/cases/curator-look.toml
use Rattle.std.specs.Prelude.{codes, ◌≡◌, ◌≤◌, ℕ, ◌+◌, ◌++◌, ◌==◌, ◌||◌, nat_lt, Bool, List, [], ◌∷◌, count_by}
use Rattle.std.specs.Prelude.{length, reverse, take, if◌then◌else◌}
use Rattle.kd_language.specs.declared.language.Language.{Language}
use Rattle.kd_language.specs.Language.{text_in}
use Rattle.kd_findings.specs.Texts.{IsInOneLine, titled}
use Rattle.kd_findings.specs.declared.texts.TheConstants.{COLUMN, LINE}

-- the line of the byte at `index`, counted from 1
abbrev pub line_at : List ℕ → ℕ → ℕ
line_at text index = count_by (λ byte. byte == 10) (take index text) + 1

-- Whether a character begins with the byte. In UTF-8, bytes from 128 to 191 continue a character.
abbrev pub begins_character : ℕ → Bool
begins_character byte = nat_lt byte 128 || nat_lt 191 byte

-- how many characters begin before the first line feed
abbrev pub characters_to_feed : List ℕ → ℕ
characters_to_feed [] = 0
characters_to_feed (byte ∷ rest) = if byte == 10 then 0
    else if begins_character byte then characters_to_feed rest + 1 else characters_to_feed rest

-- the column of the byte at `index`, counted in characters from 1
abbrev pub column_at : List ℕ → ℕ → ℕ
column_at text index = characters_to_feed (reverse (take index text)) + 1

-- the words for a place in a file: the line, the column, and a text that says what is wrong there
unfoldable pub place_words : Language → ℕ → ℕ → List ℕ → List ℕ
place_words l line column reason =
    titled (text_in l LINE) line ++ titled (text_in l COLUMN) column ++ codes ": " ++ reason

-- `words` are the line and the column of the byte at `start`, then a reason without a line end.
pub record NamesPlace (l : Language) (text : List ℕ) (start : ℕ) (words : List ℕ) : Type 0 where
  pub reason : List ℕ
  pub plain : IsInOneLine reason
  pub whole : words ≡ place_words l (line_at text start) (column_at text start) reason

-- `words` give a line and a column of `text`, and then a reason in one line. A byte of `text` stands at this line and
-- column, or `text` ends there.
pub record SaysNotToml (l : Language) (text words : List ℕ) : Type 0 where
  pub start : ℕ
  pub within : start ≤ length text
  pub named : NamesPlace l text start words
