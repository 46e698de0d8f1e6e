-- The first row of a table names the columns in which a reader finds the values.
use Rattle.std.proofs.Common.{◌≡◌, ◌++◌, ◌∷◌, [], ℕ, Bool, true, false, List, Option, Some, None, refl}
use Rattle.std.specs.Prelude.{codes, if◌then◌else◌}
unfoldable use Rattle.csv.specs.Records.{field_at}
unfoldable use Rattle.kd_slips.specs.NearNames.{is_near}
unfoldable use Rattle.kd_spreadsheet.specs.Columns.{column_from, columns_of, names_column}
unfoldable use Rattle.kd_spreadsheet.specs.Names.{is_named}
unfoldable use Rattle.kd_spreadsheet.specs.NearNames.{is_meant, is_misnamed, near_from}
unfoldable use Rattle.kd_spreadsheet.specs.Row.{is_column_read}
use Rattle.kd_spreadsheet.specs.declared.columns.Columns.{Columns}
use Rattle.kd_printed_sheet.proofs.PlainCells.{IsPlainRow, line}
use Rattle.kd_printed_sheet.specs.CsvTable.{head_line}

-- the names of the columns of key lists
abbrev list_names : Bool → List (List ℕ)
list_names false = []
list_names true =
    codes "list" ∷ codes "pins 1" ∷ codes "pins 2" ∷ codes "pins 3" ∷ codes "pins 4" ∷ codes "pins 5" ∷ codes "pins 6"
    ∷ codes "bars" ∷ []

-- the names of the columns
abbrev pub head_cells : Bool → List (List ℕ)
head_cells has_lists =
    codes "day" ∷ codes "model" ∷ codes "reflector" ∷ codes "wheels" ∷ codes "rings" ∷ codes "plugs" ∷ codes "window"
    ∷ codes "groups" ∷ list_names has_lists

-- the column of a key list at this place, if the table has such columns
abbrev list_column : Bool → ℕ → Option ℕ
list_column has_lists place = if has_lists then Some place else None

-- where the values stand
abbrev pub table_columns : Bool → Columns
table_columns has_lists = record {
  count = if has_lists then 16 else 8;
  day = Some 0;
  model = Some 1;
  reflector = Some 2;
  wheels = Some 3;
  rings = Some 4;
  plugs = Some 5;
  window = Some 6;
  groups = Some 7;
  list = list_column has_lists 8;
  pins = list_column has_lists 9 ∷ list_column has_lists 10 ∷ list_column has_lists 11 ∷ list_column has_lists 12
      ∷ list_column has_lists 13 ∷ list_column has_lists 14 ∷ [];
  bars = list_column has_lists 15;
}

pub head_is : (has_lists : Bool) (tail : List ℕ) → head_line has_lists ++ tail ≡ line (head_cells has_lists) tail
head_is false tail = refl
head_is true tail = refl

pub head_plain : (has_lists : Bool) → IsPlainRow (head_cells has_lists)
head_plain false = (refl, (refl, (refl, (refl, (refl, (refl, (refl, (refl, tt))))))))
head_plain true =
    (refl, (refl, (refl, (refl, (refl, (refl, (refl, (refl, (refl, (refl, (refl, (refl, (refl, (refl, (refl, (refl, tt))))))))))))))))

pub columns_are : (has_lists : Bool) → columns_of (head_cells has_lists) ≡ table_columns has_lists
unfolding column_from columns_of field_at is_named names_column
columns_are false = refl
columns_are true = refl

-- no column is misnamed
table_named : (has_lists : Bool) → is_misnamed (table_columns has_lists) (head_cells has_lists) ≡ false
unfolding field_at is_column_read is_meant is_misnamed is_near near_from
table_named false = refl
table_named true = refl

pub well_named : (has_lists : Bool) → is_misnamed (columns_of (head_cells has_lists)) (head_cells has_lists) ≡ false
well_named has_lists = rw (columns_are has_lists) (table_named has_lists)
