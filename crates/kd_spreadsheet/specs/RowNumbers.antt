-- The numbers of a table's rows, counted from 1 as in a spreadsheet. CR, LF or both end a row, but not within a quoted
-- cell. An empty row counts, but its number is left out here.
-- Code: finds the numbers row by row, and passes over empty rows.
-- Test: tests/cases/curator-sheet.toml
use Rattle.std.specs.Prelude.{◌≡◌, ◌⊎◌, ◌≤◌, ℕ, ◌+◌, ◌-◌, ◌^◌, ◌==◌, ◌&&◌, ◌||◌, Bool, false, IsFalse, List, [], ◌∷◌, length}
use Rattle.std.specs.Prelude.{if◌then◌else◌}
use Rattle.csv.specs.Reading.{strip_bom}
use Rattle.kd_spreadsheet.specs.Rows.{may_end, quoting_after_byte, separator_of}
use Rattle.kd_spreadsheet.specs.declared.notes.row_numbers.RowNumbers.{RowNumbers}
use Rattle.kd_spreadsheet.specs.declared.quotes.Quoting.{Quoting}
use Rattle.kd_spreadsheet.specs.declared.quotes.Quoting.TheVariants.{CellStart}

-- whether the byte ends a line: CR or LF
abbrev pub ends_line : ℕ → Bool
ends_line byte = byte == 13 || byte == 10

-- A place between two bytes of a table:
-- - `AtStart`: a row starts here; its value is true if the byte before is a CR.
-- - `Within`: the place is in a row; its value is the state of quotes here.
pub data RowPlace : Type 0 where
  AtStart : Bool → RowPlace
  Within : Quoting → RowPlace

-- The numbers of the rows that start in the rest of a table, without empty rows. The rest begins in row `number`.
abbrev pub numbers_from : ℕ → RowPlace → ℕ → List ℕ → List ℕ
numbers_from separator place number [] = []
numbers_from separator (AtStart after_return) number (byte ∷ bytes) =
    if after_return && byte == 10 then numbers_from separator (AtStart false) number bytes
    else if ends_line byte then numbers_from separator (AtStart (byte == 13)) (number + 1) bytes
    else number ∷ numbers_from separator (Within (quoting_after_byte separator CellStart byte)) number bytes
numbers_from separator (Within quoting) number (byte ∷ bytes) =
    if ends_line byte && may_end quoting then numbers_from separator (AtStart (byte == 13)) (number + 1) bytes
    else numbers_from separator (Within (quoting_after_byte separator quoting byte)) number bytes

-- the numbers of a table's rows, except empty rows
abbrev pub row_numbers : List ℕ → List ℕ
row_numbers table = numbers_from (separator_of table) (AtStart false) 1 (strip_bom table)

-- ---- Row by row. No public contract cites these definitions.

-- the numbers of the rows that are still to be read, except empty rows
abbrev pub numbers_left : RowNumbers → List ℕ
numbers_left rows = numbers_from rows.separator (AtStart false) rows.number rows.rest.now

-- If bytes are left, they are so few that all numbers of their rows fit into 64 bits.
abbrev pub IsCounted : RowNumbers → Type 0
IsCounted rows = (rows.rest.now ≡ []) ⊎ (rows.number + length rows.rest.now ≤ 2 ^ 64 - 2)

-- `number` is the first item of `before`, and `after` has all other items of `before`. Or both lists are empty.
abbrev pub IsNext : List ℕ → ℕ → List ℕ → Type 0
IsNext before number after = (before ≡ number ∷ after) ⊎ ((before ≡ []) × (after ≡ []))

-- The bytes don't begin with a line end.
abbrev pub StartsRow : List ℕ → Type 0
StartsRow [] = Unit {0}
StartsRow (byte ∷ bytes) = IsFalse (ends_line byte)

-- `bytes` count as `count` empty rows, and then the rows in `left`. `left` is at least `count` bytes shorter than
-- `bytes`.
pub record AreLineEnds (bytes : List ℕ) (count : ℕ) (left : List ℕ) : Type 0 where
  pub same : (separator number : ℕ) → numbers_from separator (AtStart false) number bytes
      ≡ numbers_from separator (AtStart false) (number + count) left
  pub shorter : count + length left ≤ length bytes

-- In `bytes`, one row that isn't empty stands before the rows of `left`. `left` is empty, or at least two bytes shorter
-- than `bytes`. If `bytes` has no row, both are empty.
pub data IsRowBefore (separator : ℕ) (bytes left : List ℕ) : Type 0 where
  NoRow : bytes ≡ [] → left ≡ [] → IsRowBefore separator bytes left
  OneRow : ((number : ℕ) → numbers_from separator (AtStart false) number bytes
      ≡ number ∷ numbers_from separator (AtStart false) (number + 1) left)
      → (left ≡ []) ⊎ (length left + 2 ≤ length bytes) → IsRowBefore separator bytes left
