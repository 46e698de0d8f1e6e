-- What the notes on a table's rows are made from: `Head` is the same for all rows, and `PlacedRow` is one row with the
-- words for its place. No public contract cites these definitions.
use Rattle.std.specs.Prelude.{ℕ, List, Option}
use Rattle.kd_language.specs.declared.language.Language.{Language}
use Rattle.kd_spreadsheet.specs.declared.columns.Columns.{Columns}
use Rattle.kd_options.specs.TableOptions.{OptionTexts}

-- What is the same for the notes on all rows: the language, the options and the columns. `names` is the table's first
-- row, which has the columns' names.
pub record Head : Type 0 where
  pub language : Language
  pub options : OptionTexts
  pub columns : Columns
  pub names : List (List ℕ)

abbrev pub head_of : Language → OptionTexts → Columns → List (List ℕ) → Head
head_of language options columns names =
    record { language = language; options = options; columns = columns; names = names }

-- A row: its cells, and the words for its place, such as `row 5 (day 3), `. Each line about the row begins with these
-- words. `earlier` is the number of an earlier row with the row's day; `None` if there is no such row.
pub record PlacedRow : Type 0 where
  pub place : List ℕ
  pub cells : List (List ℕ)
  pub earlier : Option ℕ

abbrev pub placed_row : List ℕ → List (List ℕ) → Option ℕ → PlacedRow
placed_row place cells earlier = record { place = place; cells = cells; earlier = earlier }
