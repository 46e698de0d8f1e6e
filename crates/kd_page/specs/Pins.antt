-- The table of a Converter's pins. It marks the pins that are effective after the settings, and frames the pins that
-- change.
use Rattle.std.specs.Prelude.{decimal, ℕ, ◌==◌, Bool, false, not, if◌then◌else◌, List, [], ◌∷◌, ◌++◌, flat_map, take}
use Rattle.std.specs.Prelude.{drop}
use Rattle.std.specs.Prelude.{Option, Some, None}
use Rattle.std.specs.Option.{option_map_or}
use Rattle.kd_tables.specs.Permutation.{alphabet}
use Rattle.kd_state.specs.Machine.{machine_pin}
use Rattle.kd_pictures.specs.declared.numbers.TheConstants.{PIN_WHEELS}
use Rattle.kd_page.specs.declared.spots.Spot.{Spot}
use Rattle.kd_page.specs.declared.spots.Step.TheVariants.{Pins}
use Rattle.kd_language.specs.declared.language.Language.{Language}
use Rattle.kd_pictures.specs.declared.words.Mark.TheVariants.{Effective, Ineffective}
use Rattle.kd_pictures.specs.declared.words.Word.TheVariants as words
use Rattle.kd_pictures.specs.declared.texts.TheConstants as texts
use Rattle.kd_language.specs.Language.{text_in}
use Rattle.kd_page.specs.Boxes.{boxes_at, pin_mark}
use Rattle.kd_page.specs.Page.{Page}
use Rattle.kd_page.specs.Spots.{count_at, row_spot, step_spot}
use Rattle.kd_page.specs.Steps.{step_text}
use Rattle.kd_language.specs.Template.{filled}
use Rattle.kd_pictures.specs.Template.{count_text, letter_text}
use Rattle.kd_pictures.specs.Words.{mark_text}

abbrev pub pin_spot : ℕ → ℕ → Spot
pin_spot wheel letter = record { step = Pins; row = Some wheel; cell = Some letter }

-- Whether a pin is the same before and after the settings. `was` says whether it is effective before them, and
-- `effective` whether it is effective after them.
abbrev pub is_same_pin : Bool → Option Bool → Bool
is_same_pin effective was = option_map_or (λ old. if old then effective else not effective) was false

-- a pin that no setting sets: its letter, and its mark
abbrev pub pin_shown : ℕ → Bool → List ℕ
pin_shown letter effective = filled texts.PIN_SHOWN.now (letter_text letter ∷ mark_text (pin_mark effective) ∷ [])

-- the content of a pin's cell: the pin's checkbox or, if no setting sets the pin, its letter and its mark
abbrev pub pin_inside : Page → ℕ → ℕ → Bool → List ℕ
pin_inside page wheel letter effective =
    let spot = pin_spot wheel letter in
    if count_at spot page.settings == 0 then pin_shown letter effective else boxes_at page spot

abbrev pub cell_text : Bool → List ℕ
cell_text is_same = if is_same then texts.CELL.now else texts.SET_CELL.now

abbrev pub pin_item : Page → ℕ → ℕ → Bool → List ℕ
pin_item page wheel letter effective =
    cell_text (is_same_pin effective (machine_pin page.before wheel letter)) ++ pin_inside page wheel letter effective

-- The cell of a pin. It shows the pin after the settings. The cell is framed if the pin changes, and empty if the
-- wheel doesn't have the letter.
abbrev pub pin_cell : Page → ℕ → ℕ → Option Bool → List ℕ
pin_cell page wheel letter None = texts.NO_PIN.now
pin_cell page wheel letter (Some effective) = pin_item page wheel letter effective

abbrev pub pin_cells : Page → ℕ → List ℕ → List ℕ
pin_cells page wheel letters =
    flat_map (λ letter. pin_cell page wheel letter (machine_pin page.after wheel letter)) letters

-- the first words of the lines that set the pins of `wheel`, such as `PIN 3`; empty if there are no pins to set
abbrev pub pin_lines : ℕ → ℕ → List ℕ
pin_lines wheel count = if count == 0 then [] else filled texts.PIN_LINES.now (decimal wheel ∷ [])

-- the heading of a wheel in the table, with the wheel's number, and the number of pins to set
abbrev pub pin_head : Language → ℕ → ℕ → List ℕ
pin_head l wheel count =
    filled (text_in l texts.PIN_WHEEL) (decimal wheel ∷ count_text l count ∷ []) ++ pin_lines wheel count

-- a wheel in the table: its head, and two rows of 13 letters
abbrev pub pin_wheel : Page → ℕ → List ℕ
pin_wheel page wheel =
    pin_head page.language wheel (count_at (row_spot Pins wheel) page.settings)
    ++ texts.PIN_ROW.now ++ pin_cells page wheel (take 13 alphabet)
    ++ texts.PIN_ROW.now ++ pin_cells page wheel (drop 13 alphabet) ++ texts.ROW_END.now

-- the caption, which says what the marks mean
unfoldable pub pins_caption : Language → List ℕ
pins_caption l = filled (text_in l texts.PINS) (mark_text Effective ∷ mark_text Ineffective ∷ [])

unfoldable pub pins_step : Page → List ℕ
pins_step page =
    step_text page words.Pins (count_at (step_spot Pins) page.settings) ++ pins_caption page.language
    ++ flat_map (pin_wheel page) PIN_WHEELS ++ texts.PINS_END.now
