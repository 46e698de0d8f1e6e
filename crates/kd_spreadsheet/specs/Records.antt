-- The rows of a table that an iterator has read so far. No public contract cites this definition.
use Rattle.std.specs.Prelude.{◌≡◌, ◌<◌, ℕ, List, Some}
use Rattle.std.specs.Borrow.{Bor}
use Rattle.csv.specs.Reading.{Reached, Ready, source_of, strip_bom}
use Rattle.csv.specs.declared.iter.ByteRecordsIntoIter.{ByteRecordsIntoIter}
use Rattle.csv.specs.declared.parser.State.TheVariants as st
use Rattle.csv.specs.declared.reader.Trim.TheVariants as trim
use Rattle.kd_spreadsheet.specs.Rows.{separated, separator_of}

-- `rows` are the rows of the table that the iterator `records` has read so far.
pub record IsReadTo (table : List ℕ) (records : ByteRecordsIntoIter (Bor (List ℕ))) (rows : List (List (List ℕ)))
    : Type 0 where
  pub untrimmed : records.rdr.trim ≡ trim.None
  pub ready : Ready records.rdr
  pub left : 0 < records.left
  pub config : records.rdr.config ≡ separated (separator_of table)
  pub rest : List ℕ
  pub source : source_of (λ s. Some s.now) records.rdr ≡ Some rest
  pub reached : Reached (separated (separator_of table)) st.StartRecord (strip_bom table) rows records.rdr.state rest
