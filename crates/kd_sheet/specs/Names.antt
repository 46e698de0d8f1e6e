-- Models, reflectors, wheels and standings, found by their names.
-- Test: tests/cases/desk-files.toml
use Rattle.std.specs.Prelude.{ℕ, List, find, bytes_eq, Option}

-- the first item of the list `things` whose text is `text`; the function `text_of` gives an item's text
unfoldable pub find_by_text : {A : Type 0} → (A → List ℕ) → List A → List ℕ → Option A
find_by_text text_of things text = find (λ thing. bytes_eq (text_of thing) text) things
