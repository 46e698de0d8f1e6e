-- The letters to set last, in the windows or on the pin wheels. Each letter has a checkbox.
use Rattle.std.specs.Prelude.{decimal, ℕ, List, [], ◌∷◌, ◌++◌, flat_map, Option, Some, None, option_and_then}
use Rattle.std.specs.Option.{option_or}
use Rattle.kd_state.specs.declared.machine.parts.Parts.{Parts}
use Rattle.kd_state.specs.Machine.{machine_letter, machine_pin_letter, machine_slot}
use Rattle.kd_pictures.specs.declared.numbers.TheConstants.{PIN_WHEELS, SLOTS}
use Rattle.kd_page.specs.declared.spots.Step.TheVariants.{Turns}
use Rattle.kd_pictures.specs.declared.words.Word.TheVariants as words
use Rattle.kd_pictures.specs.declared.texts.TheConstants as texts
use Rattle.kd_language.specs.Language.{text_in}
use Rattle.kd_page.specs.Boxes.{boxes_at}
use Rattle.kd_page.specs.Page.{Page}
use Rattle.kd_page.specs.Spots.{count_at, row_spot, step_spot}
use Rattle.kd_page.specs.Steps.{full_step_text}
use Rattle.kd_language.specs.Template.{filled}
use Rattle.kd_pictures.specs.Template.{letter_text, ordinal_text}

-- The letter in the window of a slot. `None` if the slot is empty, or the machine has no slot with this number.
abbrev pub letter_in_slot : Parts → ℕ → Option ℕ
letter_in_slot m slot =
    option_and_then (λ seated. option_and_then (machine_letter m) seated) (machine_slot m slot)

-- the letter in a slot's window, or on a pin wheel
abbrev pub letter_shown : Parts → ℕ → Option ℕ
letter_shown m number = option_or (letter_in_slot m number) (machine_pin_letter m number)

-- the checkbox of a window; if a setting turns the window's wheel, the checkbox has the setting's line
abbrev pub window_item : Page → ℕ → ℕ → List ℕ
window_item page slot letter =
    filled (text_in page.language texts.WINDOW_BOX) (decimal slot ∷ letter_text letter ∷ ordinal_text letter ∷ [])
    ++ boxes_at page (row_spot Turns slot) ++ texts.WINDOW_BOX_END.now

abbrev pub window_box : Page → ℕ → Option ℕ → List ℕ
window_box page slot None = []
window_box page slot (Some letter) = window_item page slot letter

unfoldable pub windows_step : Page → List ℕ
windows_step page =
    full_step_text page words.Windows (count_at (step_spot Turns) page.settings) ++ text_in page.language texts.WINDOWS
    ++ flat_map (λ slot. window_box page slot (letter_in_slot page.after slot)) SLOTS ++ texts.LIST_END.now

abbrev pub letter_item : Page → ℕ → ℕ → List ℕ
letter_item page wheel letter =
    filled texts.LETTER_BOX.now (letter_text letter ∷ []) ++ boxes_at page (row_spot Turns wheel)
    ++ texts.LETTER_BOX_END.now

abbrev pub letter_box : Page → ℕ → Option ℕ → List ℕ
letter_box page wheel None = []
letter_box page wheel (Some letter) = letter_item page wheel letter

unfoldable pub letters_step : Page → List ℕ
letters_step page =
    full_step_text page words.Letters (count_at (step_spot Turns) page.settings) ++ text_in page.language texts.LETTERS
    ++ flat_map (λ wheel. letter_box page wheel (machine_pin_letter page.after wheel)) PIN_WHEELS
    ++ texts.LETTERS_END.now
