-- A month's table for a model of rotor machine. Each day has a row, and the last day comes first. So an operator can
-- cut off used days at the bottom. In the definitions, `l` is the language of the words.
use Rattle.std.specs.Prelude.{decimal, ℕ, Bool, true, false, List, [], ◌∷◌, ◌++◌, flat_map, Option, Some, None}
use Rattle.kd_tables.specs.declared.model.Model.{Model}
use Rattle.kd_tables.specs.declared.model.Model.TheVariants.{EnigmaI, M3, M4, M209}
use Rattle.kd_tables.specs.Tables.{reflector_text, slots_of}
use Rattle.kd_state.specs.declared.sheet_day.rotor_entry.SheetWheel.{SheetWheel}
use Rattle.kd_state.specs.SheetDay.{Day, Rotor, Pin, RotorDay}
use Rattle.kd_sheet.specs.Sheet.{day_of}
use Rattle.kd_language.specs.declared.language.Language.{Language}
use Rattle.kd_language.specs.Language.{text_in}
use Rattle.kd_language.specs.Template.{filled}
use Rattle.kd_pictures.specs.Words.{model_name}
use Rattle.kd_printed_sheet.specs.declared.texts.TheConstants as texts
use Rattle.kd_printed_sheet.specs.Days.{days_of, first_of}
use Rattle.kd_printed_sheet.specs.Words.{ground_text, group_text, name_text, pair_text, ring_text, words_text}

-- ---- The row of a day.

abbrev pub wheel_cell : SheetWheel → List ℕ
wheel_cell wheel = filled texts.WHEEL.now (name_text wheel ∷ [])

-- whether the model's key sheets give rings as numbers, and not as letters
abbrev pub has_numbered_rings : Model → Bool
has_numbered_rings EnigmaI = true
has_numbered_rings M3 = false
has_numbered_rings M4 = false
has_numbered_rings M209 = false

abbrev pub ring_cell : Bool → SheetWheel → List ℕ
ring_cell is_number wheel = filled texts.RING.now (ring_text is_number wheel ∷ [])

-- the cells of the day, the reflector, the wheels and their rings; wheels and rings stand in order from the left
abbrev pub setting_cells : RotorDay → List ℕ
setting_cells day =
    filled texts.ROW.now (decimal day.day ∷ reflector_text day.reflector ∷ []) ++ flat_map wheel_cell day.wheels
    ++ flat_map (ring_cell (has_numbered_rings day.model)) day.wheels

-- the cells of the cables, the ground setting and the groups; the ground setting has a letter for each wheel
abbrev pub word_cells : RotorDay → List ℕ
word_cells day =
    texts.CELL.now ++ words_text pair_text day.pairs ++ texts.CELL.now ++ words_text ground_text day.wheels
    ++ texts.CELL.now ++ words_text group_text day.groups ++ texts.ROW_END.now

unfoldable pub row_text : RotorDay → List ℕ
row_text day = setting_cells day ++ word_cells day

-- the row of a rotor machine's day; empty if there is no day, or if it is a Converter's day
abbrev pub row_of : Option Day → List ℕ
row_of None = []
row_of (Some (Rotor values)) = row_text values
row_of (Some (Pin values)) = []

-- ---- The table.

-- the words for the days of a table: one day, or the first day and the last day
abbrev pub span_text : Language → ℕ → List ℕ → List ℕ
span_text l last [] = filled (text_in l texts.ONE_DAY) (decimal last ∷ [])
span_text l last (day ∷ earlier) =
    filled (text_in l texts.FIRST_TO_LAST) (decimal (first_of last (day ∷ earlier)) ∷ decimal last ∷ [])

-- the head of a model's table, and the names of its columns
unfoldable pub month_head : Language → Model → ℕ → List ℕ → List ℕ
month_head l model last earlier =
    let slots = decimal (slots_of model) in
    filled (text_in l texts.MONTH) (model_name model ∷ []) ++ span_text l last earlier
    ++ filled (text_in l texts.COLUMNS) (slots ∷ slots ∷ slots ∷ slots ∷ [])

-- the table of the day `last` and of the days `earlier`, which stand in falling order
unfoldable pub table_text : Language → Model → List (Option Day) → ℕ → List ℕ → List ℕ
table_text l model month last earlier =
    month_head l model last earlier ++ flat_map (λ number. row_of (day_of month number)) (last ∷ earlier)
    ++ texts.MONTH_END.now

-- the table of a model's days, which are in falling order; empty if there are no days
abbrev pub table_of_days : Language → Model → List (Option Day) → List ℕ → List ℕ
table_of_days l model month [] = []
table_of_days l model month (last ∷ earlier) = table_text l model month last earlier

-- the table of all days that the month has for the model
unfoldable pub month_table : Language → Model → List (Option Day) → List ℕ
month_table l model month = table_of_days l model month (days_of model month)
