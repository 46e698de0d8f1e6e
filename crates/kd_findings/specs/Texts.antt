-- Texts that are made of pieces, and the words for a place in a file.
use Rattle.std.specs.Prelude.{codes, ◌≡◌, ◌≢◌, ◌⊎◌, ℕ, ◌++◌, List, [], ◌∷◌, Option, Some, None, decimal, slice_index, EachIndex}
use Rattle.std.specs.Option.{option_map_or}
use Rattle.kd_language.specs.declared.language.Language.{Language}
use Rattle.kd_language.specs.Language.{text_in}
use Rattle.kd_findings.specs.declared.texts.TheConstants.{DAY, ENTRY}

-- The text has two parts. The first part satisfies `First`, and the other part satisfies `Others`.
pub record BeginsWith (First Others : List ℕ → Type 0) (text : List ℕ) : Type 0 where
  pub piece : List ℕ
  pub others : List ℕ
  pub first : First piece
  pub after : Others others
  pub whole : text ≡ piece ++ others

-- The text has a piece for each item of a list, in the order of the items. `IsPiece` says which texts can be an item's
-- piece.
abbrev pub ArePieces : {A : Type 0} → (A → List ℕ → Type 0) → List A → List ℕ → Type 0
ArePieces IsPiece [] text = text ≡ []
ArePieces IsPiece (first ∷ rest) text = BeginsWith (IsPiece first) (λ others. ArePieces IsPiece rest others) text

-- The text has no line feed.
abbrev pub IsInOneLine : List ℕ → Type 0
IsInOneLine text = EachIndex text (λ index. slice_index text index ≢ 10)

-- `line` is the whole of `text`, or the part of `text` before a line feed.
abbrev pub EndsAtFeed : List ℕ → List ℕ → Type 0
EndsAtFeed text line = (text ≡ line) ⊎ ((rest : List ℕ) × (text ≡ line ++ 10 ∷ rest))

-- a title, then a number in decimal digits
unfoldable pub titled : List ℕ → ℕ → List ℕ
titled title number = title ++ decimal number

-- the words for an item's number; empty if there is no number
abbrev pub item_words : Option ℕ → List ℕ
item_words item = option_map_or (titled (codes " ")) item []

-- the words for an entry: its day or, if the day can't be read, the entry's number
unfoldable pub entry_words : Language → Option ℕ → Option ℕ → List ℕ
entry_words l (Some day) entry = titled (text_in l DAY) day
entry_words l None (Some entry) = titled (text_in l ENTRY) entry
entry_words l None None = []

-- ---- Texts that grow. No public contract cites this definition.

-- `new` is `old`, followed by a text that satisfies `P`.
pub record AppendsText (P : List ℕ → Type 0) (old new : List ℕ) : Type 0 where
  pub text : List ℕ
  pub fits : P text
  pub added : new ≡ old ++ text
