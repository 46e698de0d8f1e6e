-- A key sheet to fill in. It has a section for each day. In a section, `?` stands for each missing letter and number. A
-- day that still has a `?` is refused, so that nobody uses a day that isn't filled in.
-- Test: tests/cases/curator-sheet.toml
use Rattle.std.specs.Prelude.{codes, false, ℕ, List, [], ◌∷◌, ◌++◌, map, replicate}
use Rattle.std.specs.List.{range_with_len}
use Rattle.kd_tables.specs.Tables.{by_family, family_of, slots_of}
use Rattle.kd_tables.specs.declared.model.Model.{Model}
use Rattle.kd_sheet.specs.MachineText.{quoted_text, array_text, key_line}
use Rattle.kd_sheet.specs.SheetText.{day_head_lines, sections_text}
use Rattle.kd_sheet.specs.declared.key.Key.{Key}
use Rattle.kd_sheet.specs.declared.key.Key.TheVariants as keys

-- the line of a TOML key whose value is a text of `count` question marks
unfoldable pub unknown_line : Key → ℕ → List ℕ
unknown_line key count = key_line key (quoted_text (replicate count 63))

-- the line of a TOML key whose value is an array of `count` items, each written as `item`, for example `??`
unfoldable pub unknown_items_line : Key → ℕ → List ℕ → List ℕ
unknown_items_line key count item = key_line key (array_text (replicate count item))

-- The lines that follow the number and the model of a rotor machine's day. There are ten pairs and four groups, as on
-- most sheets.
abbrev pub empty_rotor_lines : ℕ → List (List ℕ)
empty_rotor_lines slots =
    unknown_line keys.Reflector 1
    ∷ unknown_items_line keys.Wheels slots (codes "?")
    ∷ unknown_line keys.Rings slots
    ∷ unknown_line keys.Window slots
    ∷ unknown_items_line keys.Plugs 10 (codes "??")
    ∷ unknown_items_line keys.Groups 4 (codes "???")
    ∷ []

-- the lines that follow the number and the model of a Converter's day
abbrev pub empty_pin_lines : List (List ℕ)
empty_pin_lines =
    unknown_line keys.List 2
    ∷ unknown_items_line keys.Pins 6 (codes "?")
    ∷ unknown_line keys.Window 6
    ∷ unknown_items_line keys.Rows 27 (codes "?-?")
    ∷ []

-- all lines of day `number` for a machine of `model`
abbrev pub empty_day_lines : Model → ℕ → List (List ℕ)
empty_day_lines model number =
    day_head_lines number model ++ by_family (empty_rotor_lines (slots_of model)) empty_pin_lines (family_of model)

-- the text of a sheet with the days 1 to `days`
unfoldable pub empty_month_text : Model → ℕ → List ℕ
empty_month_text model days = sections_text false (map (empty_day_lines model) (range_with_len 1 days))
