-- The days of a key sheet as a CSV table for a spreadsheet. Each day has a row. The rows stand in the rising order of
-- the days.
use Rattle.std.specs.Prelude.{decimal, ℕ, Bool, if◌then◌else◌, List, [], ◌++◌, flat_map, zip}
use Rattle.std.specs.Prelude.{Option, Some, None}
use Rattle.kd_tables.specs.Places.{reading_text}
use Rattle.kd_tables.specs.Rings.{ring_of}
use Rattle.kd_tables.specs.Tables.{model_text, reflector_text}
use Rattle.kd_tables.specs.Text.{letters_text}
use Rattle.kd_tables.specs.declared.model.Model.TheVariants.{M209}
use Rattle.kd_pins.specs.declared.pin_set.PinSet.{PinSet}
use Rattle.kd_pins.specs.PinWheels.{pin_wheels, pins_of, pins_on}
use Rattle.kd_state.specs.SheetDay.{Day, Rotor, Pin, PinDay, RotorDay}
use Rattle.kd_sheet.specs.Sheet.{day_of, has_days_of}
use Rattle.kd_pictures.specs.Template.{letter_text}
use Rattle.kd_printed_sheet.specs.declared.days.TheConstants.{DAYS}
use Rattle.kd_printed_sheet.specs.declared.texts.TheConstants as texts
use Rattle.kd_printed_sheet.specs.MonthTable.{has_numbered_rings}
use Rattle.kd_printed_sheet.specs.Words.{ground_text, group_text, name_text, pair_text, ring_text, words_text}

-- ---- The row of a rotor machine's day. `has_lists` says whether the table has columns for key lists.

-- the cells of the day, the model and the reflector
abbrev pub day_cells : RotorDay → List ℕ
day_cells day =
    decimal day.day ++ texts.COMMA.now ++ model_text day.model ++ texts.COMMA.now ++ reflector_text day.reflector

-- the cells of the wheels, the rings, the cables, the ground setting and the groups
abbrev pub key_cells : RotorDay → List ℕ
key_cells day =
    texts.COMMA.now ++ words_text name_text day.wheels
    ++ texts.COMMA.now ++ words_text (ring_text (has_numbered_rings day.model)) day.wheels
    ++ texts.COMMA.now ++ words_text pair_text day.pairs ++ texts.COMMA.now ++ words_text ground_text day.wheels
    ++ texts.COMMA.now ++ words_text group_text day.groups

abbrev pub list_cells : Bool → List ℕ
list_cells has_lists = if has_lists then texts.NO_LIST.now else []

unfoldable pub rotor_line : Bool → RotorDay → List ℕ
rotor_line has_lists day = day_cells day ++ key_cells day ++ list_cells has_lists ++ texts.ROW_END.now

-- ---- The row of a Converter's day.

-- the letter of a pin; empty if the pin isn't effective
abbrev pub effective_letter : ℕ × Bool → List ℕ
effective_letter pin = if pin.1 then letter_text pin.0 else []

-- the cell of a pin wheel, with the letters of its effective pins
abbrev pub effective_cell : List ℕ → List Bool → List ℕ
effective_cell letters pins = texts.COMMA.now ++ flat_map effective_letter (zip letters pins)

-- the cells of the six pin wheels, each with the letters of the wheel's effective pins
unfoldable pub effective_cells : PinSet → List ℕ
effective_cells pins = flat_map (λ wheel. effective_cell (ring_of wheel) (pins_on (pins_of pins) wheel)) pin_wheels

unfoldable pub pin_line : PinDay → List ℕ
pin_line day =
    decimal day.day ++ texts.PIN_MODEL.now ++ words_text letter_text day.window ++ texts.NO_GROUPS.now
    ++ letters_text day.list ++ effective_cells day.pins ++ texts.COMMA.now ++ words_text reading_text day.rows
    ++ texts.ROW_END.now

-- ---- The table.

abbrev pub day_line : Bool → Option Day → List ℕ
day_line has_lists None = []
day_line has_lists (Some (Rotor values)) = rotor_line has_lists values
day_line has_lists (Some (Pin values)) = pin_line values

-- whether the month has a Converter's day
unfoldable pub has_lists : List (Option Day) → Bool
has_lists month = has_days_of M209 month

-- The names of the columns. The columns for key lists are there only if the month has a Converter's day.
abbrev pub head_line : Bool → List ℕ
head_line has_lists =
    texts.COLUMN_NAMES.now ++ (if has_lists then texts.LIST_COLUMN_NAMES.now else []) ++ texts.ROW_END.now

unfoldable pub csv_text : List (Option Day) → List ℕ
csv_text month =
    head_line (has_lists month) ++ flat_map (λ number. day_line (has_lists month) (day_of month number)) DAYS
