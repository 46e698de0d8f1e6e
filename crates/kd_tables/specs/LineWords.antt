-- Lines of words with single spaces between them, and texts split at a byte.
-- Test: tests/cases/desk-lists.toml
use Rattle.std.specs.Prelude.{◌≡◌, ◌≢◌, ◌==◌, ℕ, List, ◌∷◌, ◌++◌, All}
use Rattle.std.specs.List.{slice_split, join_with_byte}

-- the words of `line`, which is split at each space; between two spaces in a row is an empty word
abbrev pub words_of : List ℕ → List (List ℕ)
words_of line = slice_split (λ byte. byte == 32) line

-- the line made of `words`, with single spaces between them
abbrev pub line_of : List (List ℕ) → List ℕ
line_of words = join_with_byte 32 words

-- `words` with single spaces between them, then LF, then `rest`
abbrev pub line_then : List (List ℕ) → List ℕ → List ℕ
line_then words rest = line_of words ++ 10 ∷ rest

-- The byte `byte` isn't in `text`.
abbrev pub IsWithout : ℕ → List ℕ → Type 0
IsWithout byte text = All (λ other. other ≢ byte) text

-- `text` is `part`, then the byte `byte`, then `rest`. It is split at its first `byte`, so `part` has no `byte`.
pub record IsFirstPart (byte : ℕ) (text part rest : List ℕ) : Type 0 where
  pub joined : text ≡ part ++ byte ∷ rest
  pub without : IsWithout byte part
