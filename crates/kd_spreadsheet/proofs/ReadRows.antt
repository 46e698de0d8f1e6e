-- The records of a table that were read so far.
use Rattle.std.proofs.Common.{◌≡◌, ◌∙◌, ◌+◌, ◌<◌, ◌≤◌, ◌-◌, ap, ◌∷◌, ◌++◌, ℕ, List, [], Bor, Some, inl, true, false}
use Rattle.std.proofs.Common.{ap₂, arith, drop, get_or, length, map, refl, sym, take}
use Rattle.std.proofs.lemmas.List.{map-append, take_all, take_more}
use Rattle.csv.specs.Reading.{ReadRecord, strip_bom}
use Rattle.csv.specs.Records.{fields_of}
use Rattle.csv.specs.declared.iter.ByteRecordsIntoIter.{ByteRecordsIntoIter}
use Rattle.csv.specs.declared.parser.State.TheVariants as st
use Rattle.csv.specs.declared.record.ByteRecord.{ByteRecord}
use Rattle.csv.proofs.ReadFacts.{rows-end, rows-more}
use Rattle.kd_spreadsheet.specs.Records.{IsReadTo}
use Rattle.kd_spreadsheet.specs.Rows.{separated, separator_of}
use Rattle.kd_spreadsheet.specs.Table.{AreRows}

pub reads_next : (table : List ℕ) (rows : List (List (List ℕ))) (old new : ByteRecordsIntoIter (Bor (List ℕ)))
    (row : ByteRecord) → IsReadTo table old rows
    → ReadRecord (λ (s : Bor (List ℕ)). Some s.now) old.rdr new.rdr true (fields_of row)
    → new.rdr.first ≡ true → 0 < new.left → IsReadTo table new (rows ++ fields_of row ∷ [])
reads_next table rows old new row is read first left =
    let more = rows-more (λ (s : Bor (List ℕ)). Some s.now) old.rdr new.rdr (fields_of row)
    (separated (separator_of table)) st.StartRecord (strip_bom table) is.rest rows is.config is.source is.reached read in
    record {
      untrimmed = read.3 ∙ is.untrimmed;
      ready = inl first;
      left = left;
      config = read.2 ∙ is.config;
      rest = more.0;
      source = more.1;
      reached = more.2;
    }

pub reads_end : (table : List ℕ) (rows : List (List (List ℕ))) (old new : ByteRecordsIntoIter (Bor (List ℕ)))
    → IsReadTo table old rows → ReadRecord (λ (s : Bor (List ℕ)). Some s.now) old.rdr new.rdr false []
    → AreRows table rows
reads_end table rows old new is read = (
  old.rdr.state,
  is.rest,
  is.reached,
  rows-end (λ (s : Bor (List ℕ)). Some s.now) old.rdr new.rdr []
      (separated (separator_of table)) is.rest is.config is.source read,
)

-- the records up to one more
pub one_longer : (rows : List ByteRecord) (index : ℕ) (row : ByteRecord) → index < length rows
    → row ≡ get_or rows index row
    → map fields_of (take (index + 1) rows) ≡ map fields_of (take index rows) ++ fields_of row ∷ []
one_longer rows index row within is =
    ap (λ (all : List ByteRecord). map fields_of all) (take_more rows index row within)
    ∙ map-append fields_of (take index rows) (get_or rows index row ∷ [])
    ∙ ap (λ (r : ByteRecord). map fields_of (take index rows) ++ fields_of r ∷ []) (sym is)

-- ---- the first row

pub no_row : (rows : List ByteRecord) → length rows < 1 → map fields_of rows ≡ []
no_row [] none = refl
no_row (row ∷ rows) none = absurd (omega (arith, none))

pub first_row : (rows : List ByteRecord) (first : ByteRecord) → 1 ≤ length rows → first ≡ get_or rows 0 first
    → map fields_of rows ≡ fields_of first ∷ map fields_of (take (length rows - 1) (drop 1 rows))
first_row [] first some is = absurd (omega (arith, some))
first_row (row ∷ rows) first some is =
    let rest : take (length (row ∷ rows) - 1) rows ≡ rows = take_all (length (row ∷ rows) - 1) rows (omega arith) in
    ap₂ (λ one others. fields_of one ∷ map fields_of others) (sym is) (sym rest)
