-- The day in a row of a table.
-- Test: tests/cases/curator-sheet.toml
use Rattle.std.specs.Prelude.{◌≡◌, ◌-◌, ◌==◌, ◌&&◌, ◌||◌, ℕ, nat_le, Bool, false, List, [], ◌∷◌, length, Option, Some, None, ⊤, if◌then◌else◌}
use Rattle.std.specs.List.{list_all, list_any, range_with_len}
use Rattle.std.specs.Option.{option_map, option_map_or}
use Rattle.kd_tables.specs.Tables.{by_family, family_of}
use Rattle.kd_tables.specs.declared.model.Model.{Model}
use Rattle.kd_state.specs.SheetDay.{Day, Rotor, Pin, IsLegalDay}
use Rattle.kd_spreadsheet.specs.Columns.{cell_at, cell_or}
use Rattle.kd_spreadsheet.specs.Items.{is_blank}
use Rattle.kd_spreadsheet.specs.Names.{model_named}
use Rattle.kd_spreadsheet.specs.PinRow.{pin_values}
use Rattle.kd_spreadsheet.specs.RotorRow.{rotor_values}
use Rattle.kd_spreadsheet.specs.Steps.{◌>>=◌}
use Rattle.kd_spreadsheet.specs.declared.columns.Columns.{Columns}
use Rattle.kd_options.specs.TableOptions.{OptionTexts}

-- the places of all columns that are read, except the pin columns, which are in `columns.pins`
abbrev pub places_of : Columns → List (Option ℕ)
places_of c =
    c.day ∷ c.model ∷ c.reflector ∷ c.wheels ∷ c.rings ∷ c.plugs ∷ c.window ∷ c.groups ∷ c.list ∷ c.bars ∷ []

abbrev pub is_at : ℕ → Option ℕ → Bool
is_at place column = option_map_or (λ other. other == place) column false

-- whether the column at `place` is read
unfoldable pub is_column_read : Columns → ℕ → Bool
is_column_read columns place = list_any (is_at place) (places_of columns) || list_any (is_at place) columns.pins

-- whether a row is blank in all columns that are read
unfoldable pub is_blank_row : Columns → List (List ℕ) → Bool
is_blank_row columns row =
    list_all (λ column. is_blank (cell_at column row)) (places_of columns)
    && list_all (λ column. is_blank (cell_at column row)) columns.pins

-- the values of `row`, read as a day of `model`
abbrev pub values_of_model : OptionTexts → Columns → List (List ℕ) → Model → Option Day
values_of_model options columns row model =
    by_family (option_map Rotor (rotor_values options columns row model))
    (option_map Pin (pin_values options columns row)) (family_of model)

-- whether a row has a cell in each column of the table, and only blank cells beyond the last column
unfoldable pub fits_columns : Columns → List (List ℕ) → Bool
fits_columns columns row =
    nat_le columns.count (length row)
    && list_all (λ place. is_blank (cell_at (Some place) row)) (range_with_len columns.count (length row - columns.count))

-- the values of a row's cells, read as a day of the row's model
abbrev pub cell_values : OptionTexts → Columns → List (List ℕ) → Option Day
cell_values options columns row = do
  model ← model_named (cell_or options.model columns.model row)
  values_of_model options columns row model

-- The values of the day in a row. `None` if the row ends before the last column, or has texts beyond the last column.
abbrev pub row_values : OptionTexts → Columns → List (List ℕ) → Option Day
row_values options columns row = if fits_columns columns row then cell_values options columns row else None

-- `row` has the values of `day`, and `day` is legal.
pub record IsDayOfRow (options : OptionTexts) (columns : Columns) (row : List (List ℕ)) (day : Day) : Type 0 where
  pub values : row_values options columns row ≡ Some day
  pub legal : IsLegalDay day

-- A row has no values (`None`), or its values aren't a legal day.
abbrev pub IsNoDay : Option Day → Type 0
IsNoDay None = ⊤
IsNoDay (Some day) = ¬ IsLegalDay day
