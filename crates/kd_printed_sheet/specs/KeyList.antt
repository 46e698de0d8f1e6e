-- The key list of a Converter's day, as the manual shows it: the lugs of the bars, the effective pins, and the
-- 26-letter check. In the definitions, `l` is the language of the words.
-- Source: War Department TM 11-380.
use Rattle.std.specs.Prelude.{decimal, ℕ, ◌+◌, nat_lt, Bool, if◌then◌else◌, List, [], ◌∷◌, ◌++◌, flat_map, replicate}
use Rattle.std.specs.Prelude.{slice_get, Option, Some, None}
use Rattle.std.specs.List.{enumerate_from}
use Rattle.kd_tables.specs.declared.model.Model.TheVariants.{M209}
use Rattle.kd_tables.specs.Rings.{ring_of}
use Rattle.kd_tables.specs.Text.{letters_text}
use Rattle.kd_pins.specs.declared.pin_set.PinSet.{PinSet}
use Rattle.kd_pins.specs.PinWheel.{is_effective}
use Rattle.kd_pins.specs.PinWheels.{pin_wheels, pins_of, pins_on}
use Rattle.kd_state.specs.SheetDay.{Day, Rotor, Pin, PinDay}
use Rattle.kd_state.specs.TwoCiphers.{sheet_cipher}
use Rattle.kd_language.specs.declared.language.Language.{Language}
use Rattle.kd_pictures.specs.Fives.{fives_from}
use Rattle.kd_language.specs.Language.{text_in}
use Rattle.kd_language.specs.Template.{filled}
use Rattle.kd_pictures.specs.Template.{letter_text}
use Rattle.kd_pictures.specs.Words.{model_name}
use Rattle.kd_printed_sheet.specs.declared.texts.TheConstants as texts
use Rattle.kd_printed_sheet.specs.Words.{words_text}

-- ---- The lines of the bars. Line `n` has bar `n`, and the `n`th pin of each wheel. All are counted from 1.

-- the bar's number, in two digits, and the numbers of the wheels at its two lugs
abbrev pub bar_head : ℕ → ℕ × ℕ → List ℕ
bar_head bar reading =
    filled (if nat_lt bar 10 then texts.BAR_BELOW_TEN.now else texts.BAR.now)
    (decimal bar ∷ decimal reading.0 ∷ decimal reading.1 ∷ [])

-- The cell of a pin: its letter or, if the pin isn't effective, a hyphen. The cell is empty if the wheel has no pin at
-- this place.
abbrev pub pin_shown : Option ℕ → Bool → List ℕ
pin_shown None effective = texts.NO_PIN.now
pin_shown (Some letter) effective =
    if effective then filled texts.EFFECTIVE.now (letter_text letter ∷ []) else texts.INEFFECTIVE.now

-- the cell of the pin at place `place` of wheel `wheel`
abbrev pub pin_cell : PinSet → ℕ → ℕ → List ℕ
pin_cell pins place wheel =
    pin_shown (slice_get (ring_of wheel) place) (is_effective (pins_on (pins_of pins) wheel) place)

-- for each of the six wheels, the cell of its pin at place `place`
unfoldable pub pin_cells : PinSet → ℕ → List ℕ
pin_cells pins place = flat_map (pin_cell pins place) pin_wheels

abbrev pub bar_line : PinSet → ℕ × (ℕ × ℕ) → List ℕ
bar_line pins numbered = bar_head (numbered.0 + 1) numbered.1 ++ pin_cells pins numbered.0 ++ texts.ROW_END.now

-- ---- The key list.

-- The 26-letter check: the ciphertext of 26 times A, with the day's pins and lugs, and with A on each wheel at the
-- start.
unfoldable pub check_of : PinDay → List ℕ
check_of day = sheet_cipher (Pin (record day { window = replicate 6 0 })) (replicate 26 0)

unfoldable pub key_list : Language → PinDay → List ℕ
key_list l day =
    filled (text_in l texts.KEY_LIST) (model_name M209 ∷ decimal day.day ∷ []) ++ letters_text day.list
    ++ text_in l texts.KEY_LIST_COLUMNS ++ flat_map (bar_line day.pins) (enumerate_from 0 day.rows)
    ++ text_in l texts.CHECK ++ fives_from 0 (check_of day)
    ++ text_in l texts.CHECK_END ++ words_text letter_text day.window ++ texts.KEY_LIST_END.now

-- the key list of a Converter's day; empty for a rotor machine's day, or if there is no day
abbrev pub key_list_of : Language → Option Day → List ℕ
key_list_of l None = []
key_list_of l (Some (Rotor values)) = []
key_list_of l (Some (Pin values)) = key_list l values
