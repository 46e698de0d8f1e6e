-- A table of plain cells, with commas between the cells and a line feed after each row, is read as these cells.
use Rattle.std.proofs.Common.{◌≡◌, ◌==◌, ◌||◌, ◌++◌, ◌∷◌, ◌∙◌, [], ℕ, Bool, true, false, List, Some, None, ap, append_assoc, inl, inr, refl}
use Rattle.std.specs.List.{AllByRecursion, list_any}
use Rattle.std.proofs.lemmas.Bool.{cases_Bool}
use Rattle.csv.proofs.RoundTrip.{plain-run, record-same, start-same}
unfoldable use Rattle.csv.specs.Machine.{next_record}
unfoldable use Rattle.csv.specs.Reading.{Reached}
use Rattle.csv.specs.Reading.{AreRecords, default_config}
use Rattle.csv.specs.Writing.{default_writer, needs_byte}
use Rattle.csv.specs.declared.parser.State.TheVariants as st
use Rattle.kd_spreadsheet.specs.Rows.{ends_cell, may_end, quoting_after}
use Rattle.kd_spreadsheet.specs.declared.quotes.Quoting.TheVariants.{CellStart, Unquoted}

-- the cell has no comma, quote or line end
abbrev pub IsPlain : List ℕ → Type 0
IsPlain cell = list_any (needs_byte default_writer) cell ≡ false

-- the row has two cells or more, all plain
abbrev pub IsPlainRow : List (List ℕ) → Type 0
IsPlainRow [] = ⊥
IsPlainRow (cell ∷ []) = ⊥
IsPlainRow (cell ∷ next ∷ cells) = AllByRecursion IsPlain (cell ∷ next ∷ cells)

-- the text of the cells after a row's first cell, and then `tail`
abbrev pub after : List (List ℕ) → List ℕ → List ℕ
after [] tail = 10 ∷ tail
after (cell ∷ cells) tail = 44 ∷ (cell ++ after cells tail)

-- the text of a row, and then `tail`
abbrev pub line : List (List ℕ) → List ℕ → List ℕ
line [] tail = 10 ∷ tail
line (cell ∷ cells) tail = cell ++ after cells tail

abbrev pub lines : List (List (List ℕ)) → List ℕ
lines [] = []
lines (row ∷ rows) = line row (lines rows)

-- ---- bytes

or-left : (a b : Bool) → (a || b) ≡ false → a ≡ false
or-left false b e = refl
or-left true b e = cc e

or-right : (a b : Bool) → (a || b) ≡ false → b ≡ false
or-right false b e = e
or-right true b e = cc e

no_mark : (byte : ℕ) → needs_byte default_writer byte ≡ false
    → ((byte == 34) ≡ false) × ((byte == 13) ≡ false) × ((byte == 10) ≡ false)
no_mark byte plain =
    let line_ends = or-right _ _ (or-left _ _ (or-left _ _ plain)) in
    (or-right _ _ (or-left _ _ (or-left _ _ (or-left _ _ plain))), or-left _ _ line_ends, or-right _ _ line_ends)

-- ---- rows are read

cell_begins : (fields : List (List ℕ)) (cell : List ℕ) (cells : List (List ℕ)) (tail : List ℕ) → IsPlain cell
    → next_record default_config st.StartField fields [] (cell ++ after cells tail)
    ≡ next_record default_config st.InField fields cell (after cells tail)
cell_begins fields [] [] tail plain = start-same fields [] 10 tail refl
cell_begins fields [] (next ∷ cells) tail plain = start-same fields [] 44 (next ++ after cells tail) refl
cell_begins fields (byte ∷ cell) cells tail plain =
    start-same fields [] byte (cell ++ after cells tail) (no_mark byte (or-left _ _ plain)).0
    ∙ plain-run fields [] (byte ∷ cell) (after cells tail) plain

comma_read : (fields : List (List ℕ)) (cell rest : List ℕ)
    → next_record default_config st.InField fields cell (44 ∷ rest)
    ≡ next_record default_config st.StartField (fields ++ cell ∷ []) [] rest
unfolding next_record
comma_read fields cell rest = refl

line_end_read : (fields : List (List ℕ)) (cell tail : List ℕ)
    → next_record default_config st.InField fields cell (10 ∷ tail) ≡ Some (fields ++ cell ∷ [], st.StartRecord, tail)
unfolding next_record
line_end_read fields cell tail = refl

cells_read : (fields : List (List ℕ)) (cell : List ℕ) (cells : List (List ℕ)) (tail : List ℕ)
    → AllByRecursion IsPlain cells
    → next_record default_config st.InField fields cell (after cells tail)
    ≡ Some (fields ++ cell ∷ cells, st.StartRecord, tail)
cells_read fields cell [] tail plain = line_end_read fields cell tail
cells_read fields cell (next ∷ cells) tail plain =
    comma_read fields cell (next ++ after cells tail)
    ∙ cell_begins (fields ++ cell ∷ []) next cells tail plain.0
    ∙ cells_read (fields ++ cell ∷ []) next cells tail plain.1
    ∙ ap (λ (all : List (List ℕ)). Some (all, st.StartRecord, tail)) (append_assoc fields (cell ∷ []) (next ∷ cells))

row_begins : (cell next : List ℕ) (cells : List (List ℕ)) (tail : List ℕ) → IsPlain cell
    → next_record default_config st.StartRecord [] [] (cell ++ after (next ∷ cells) tail)
    ≡ next_record default_config st.StartField [] [] (cell ++ after (next ∷ cells) tail)
row_begins [] next cells tail plain = record-same [] [] 44 (next ++ after cells tail) refl refl
row_begins (byte ∷ cell) next cells tail plain =
    let bytes = no_mark byte (or-left _ _ plain) in
    record-same [] [] byte (cell ++ after (next ∷ cells) tail) bytes.1 bytes.2

row_read : (cell next : List ℕ) (cells : List (List ℕ)) (tail : List ℕ) → IsPlainRow (cell ∷ next ∷ cells)
    → next_record default_config st.StartRecord [] [] (line (cell ∷ next ∷ cells) tail)
    ≡ Some (cell ∷ next ∷ cells, st.StartRecord, tail)
row_read cell next cells tail plain =
    row_begins cell next cells tail plain.0
    ∙ cell_begins [] cell (next ∷ cells) tail plain.0
    ∙ cells_read [] cell (next ∷ cells) tail plain.1

rows_reached : (rows : List (List (List ℕ))) → AllByRecursion IsPlainRow rows
    → Reached default_config st.StartRecord (lines rows) rows st.StartRecord []
unfolding Reached
rows_reached [] plain = (refl, refl)
rows_reached ([] ∷ rows) plain = absurd plain.0
rows_reached ((cell ∷ []) ∷ rows) plain = absurd plain.0
rows_reached ((cell ∷ next ∷ cells) ∷ rows) plain = (
  (cell ∷ next ∷ cells, st.StartRecord, lines rows),
  row_read cell next cells (lines rows) plain.0,
  refl,
  rows_reached rows plain.1,
)

nothing_left : next_record default_config st.StartRecord [] [] [] ≡ None
unfolding next_record
nothing_left = refl

pub rows_are : (rows : List (List (List ℕ))) → AllByRecursion IsPlainRow rows
    → AreRecords default_config st.StartRecord (lines rows) rows
rows_are rows plain = (st.StartRecord, [], rows_reached rows plain, nothing_left)

-- ---- no quotes

abbrev HasNoQuote : List ℕ → Type 0
HasNoQuote text = list_any (λ byte. byte == 34) text ≡ false

cell_unquoted : (cell tail : List ℕ) → IsPlain cell → HasNoQuote tail → HasNoQuote (cell ++ tail)
cell_unquoted [] tail plain none = none
cell_unquoted (byte ∷ cell) tail plain none =
    rw (no_mark byte (or-left _ _ plain)).0 (cell_unquoted cell tail (or-right _ _ plain) none)

after_unquoted : (cells : List (List ℕ)) (tail : List ℕ) → AllByRecursion IsPlain cells → HasNoQuote tail
    → HasNoQuote (after cells tail)
after_unquoted [] tail plain none = none
after_unquoted (cell ∷ cells) tail plain none =
    cell_unquoted cell (after cells tail) plain.0 (after_unquoted cells tail plain.1 none)

lines_unquoted : (rows : List (List (List ℕ))) → AllByRecursion IsPlainRow rows → HasNoQuote (lines rows)
lines_unquoted [] plain = refl
lines_unquoted ([] ∷ rows) plain = absurd plain.0
lines_unquoted ((cell ∷ []) ∷ rows) plain = absurd plain.0
lines_unquoted ((cell ∷ next ∷ cells) ∷ rows) plain =
    cell_unquoted cell (after (next ∷ cells) (lines rows)) plain.0.0
    (after_unquoted (next ∷ cells) (lines rows) plain.0.1 (lines_unquoted rows plain.1))

-- a text without quotes may end anywhere
may_end_anywhere : (text : List ℕ) → HasNoQuote text
    → (may_end (quoting_after 44 CellStart text) ≡ true) × (may_end (quoting_after 44 Unquoted text) ≡ true)
may_end_anywhere [] none = (refl, refl)
may_end_anywhere (byte ∷ text) none =
    let plain : (byte == 34) ≡ false = or-left _ _ none in
    let rest = may_end_anywhere text (or-right _ _ none) in
    elim (cases_Bool (ends_cell 44 byte)) [
      | inl ends ↦ rw (plain, ends) (rest.0, rest.0)
      | inr goes_on ↦ rw (plain, goes_on) (rest.1, rest.1)
    ]

pub lines_may_end : (rows : List (List (List ℕ))) → AllByRecursion IsPlainRow rows
    → may_end (quoting_after 44 CellStart (lines rows)) ≡ true
lines_may_end rows plain = (may_end_anywhere (lines rows) (lines_unquoted rows plain)).0
