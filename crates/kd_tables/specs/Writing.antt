-- The part of a text that a sink takes.
-- Test: tests/refusals
use Rattle.std.specs.Prelude.{ℕ, ◌<◌, List, length, take, Option, Result, OnOk, OnErr}
use Rattle.std.specs.Io.KnownBytes.{Appends}

-- The sink took a prefix of the text, but not the whole text.
abbrev pub TakesPrefix : Option (List ℕ) → Option (List ℕ) → List ℕ → Type 0
TakesPrefix old new text = (count : ℕ) × (count < length text) × Appends old new (take count text)

-- If the call returned no error, the sink took the whole text. Otherwise the sink took a prefix of the text, but not
-- the whole text.
pub record Writes {T E : Type 0} (old new : Option (List ℕ)) (text : List ℕ) (answer : Result T E) : Type 0 where
  pub whole : OnOk answer (Appends old new text)
  pub front : OnErr answer ((count : ℕ) × (count < length text) × Appends old new (take count text))
