-- The text of a key sheet: a section for each day.
-- Test: tests/cases/curator-sheet.toml
use Rattle.std.specs.Prelude.{codes, decimal, true, false, ◌≡◌, ◌==◌, ⊤, ℕ, Bool, List, [], ◌∷◌, ◌++◌, map, if◌then◌else◌}
use Rattle.std.specs.List.{concat, list_any}
use Rattle.kd_tables.specs.Places.{reading_text}
use Rattle.kd_tables.specs.Tables.{model_text, reflector_text, wheel_text}
use Rattle.kd_tables.specs.Text.{letters_text}
use Rattle.kd_tables.specs.declared.model.Model.{Model}
use Rattle.kd_tables.specs.declared.model.Model.TheVariants.{M209}
use Rattle.kd_state.specs.SheetDay.{Day, Rotor, Pin, RotorDay, PinDay, IsLegalDay, day_number}
use Rattle.kd_sheet.specs.MachineText.{quoted_text, array_text, key_line, pin_texts}
use Rattle.kd_sheet.specs.declared.key.Key.TheVariants as keys

-- an empty line if there is an earlier section (`started`), otherwise nothing
abbrev pub section_gap : Bool → List ℕ
section_gap started = if started then codes "\n" else []

-- the section of a day: an empty line if there is an earlier section, the line `[[day]]`, and the day's lines
abbrev pub section_text : Bool → List (List ℕ) → List ℕ
section_text started lines = section_gap started ++ codes "[[day]]\n" ++ concat lines

-- the sections of several days, made from the lines of each day
abbrev pub sections_text : Bool → List (List (List ℕ)) → List ℕ
sections_text started [] = []
sections_text started (lines ∷ days) = section_text started lines ++ sections_text true days

-- the first two lines of a day: its number and its model
abbrev pub day_head_lines : ℕ → Model → List (List ℕ)
day_head_lines number model =
    key_line keys.Day (decimal number) ∷ key_line keys.Model (quoted_text (model_text model)) ∷ []

-- the lines with the reflector, and with the wheels, their rings and their window letters
abbrev pub wheels_lines : RotorDay → List (List ℕ)
wheels_lines s =
    key_line keys.Reflector (quoted_text (reflector_text s.reflector))
    ∷ key_line keys.Wheels (array_text (map (λ w. wheel_text w.wheel) s.wheels))
    ∷ key_line keys.Rings (quoted_text (letters_text (map (λ w. w.ring) s.wheels)))
    ∷ key_line keys.Window (quoted_text (letters_text (map (λ w. w.letter) s.wheels)))
    ∷ []

-- the lines with the plugged pairs and the groups
abbrev pub plugs_lines : RotorDay → List (List ℕ)
plugs_lines s =
    key_line keys.Plugs (array_text (map (λ pair. letters_text (pair.0 ∷ pair.1 ∷ [])) s.pairs))
    ∷ key_line keys.Groups (array_text (map letters_text s.groups))
    ∷ []

abbrev pub rotor_day_lines : RotorDay → List (List ℕ)
rotor_day_lines s = day_head_lines s.day s.model ++ wheels_lines s ++ plugs_lines s

-- the lines of a Converter's day after its number and its model
abbrev pub converter_lines : PinDay → List (List ℕ)
converter_lines s =
    key_line keys.List (quoted_text (letters_text s.list))
    ∷ key_line keys.Pins (array_text (pin_texts s.pins))
    ∷ key_line keys.Window (quoted_text (letters_text s.window))
    ∷ key_line keys.Rows (array_text (map reading_text s.rows))
    ∷ []

abbrev pub pin_day_lines : PinDay → List (List ℕ)
pin_day_lines s = day_head_lines s.day M209 ++ converter_lines s

abbrev pub day_lines : Day → List (List ℕ)
day_lines (Rotor s) = rotor_day_lines s
day_lines (Pin s) = pin_day_lines s

-- the text of a key sheet for the list `days`, which has at least one day
unfoldable pub sheet_text : List Day → List ℕ
sheet_text days = sections_text false (map day_lines days)

-- Each of `days` is legal, and its number is new: neither a day before it in `days` nor a day in `earlier` has this
-- number.
abbrev pub AreSheetDays : List Day → List Day → Type 0
AreSheetDays earlier [] = ⊤
AreSheetDays earlier (day ∷ days) =
    (IsLegalDay day × (list_any (λ other. day_number other == day_number day) earlier ≡ false))
    × AreSheetDays (earlier ++ day ∷ []) days
