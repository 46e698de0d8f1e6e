-- What the operator does for a received part: the letters to press, and the letters that the machine then shows.
use Rattle.std.specs.Prelude.{ℕ, ◌-◌, List, ◌++◌, length, map, take, drop, Some, None}
use Rattle.std.specs.List.{slice_range}
use Rattle.kd_state.specs.SheetDay.{Day}
use Rattle.kd_state.specs.EngineKey.{IsWindow}
use Rattle.kd_state.specs.OwnKeys.{sheet_key}
use Rattle.kd_form.specs.declared.heading.Indicator.{Indicator}
use Rattle.kd_form.specs.BodyCipher.{HasIndicator}
use Rattle.kd_form.specs.PartMaking.{cipher_from, enciphered_choice}
use Rattle.kd_form.specs.Sending.{space_letter}
use Rattle.kd_lost.specs.declared.damaged_text.DamagedText.{DamagedText}
use Rattle.kd_lost.specs.declared.damaged_text.PinTextKeys.{PinTextKeys}
use Rattle.kd_lost.specs.declared.damaged_text.TextKeys.{TextKeys}
use Rattle.kd_lost.specs.declared.damaged_text.TextKeys.TheVariants as text_keys
use Rattle.kd_part_sheet.specs.declared.cells.Cell.{Cell}
use Rattle.kd_part_sheet.specs.Cells.{choice_cells, pressed_cells, received_cells, skipped}
use Rattle.kd_part_sheet.specs.PartWork.{Work}

-- On a rotor machine, the windows first show the ground setting. The enciphered key from the heading is pressed, and
-- the lamps show the message key. Then the windows show the message key, and the body's letters after the first five
-- are pressed.
abbrev pub rotor_received : Day → Indicator → DamagedText → Work
rotor_received s i shown =
    let ground : List ℕ = i.ground_setting in record {
      ground = ground;
      key = pressed_cells i.enciphered_key (cipher_from s ground i.enciphered_key);
      start = cipher_from s ground i.enciphered_key;
      body =
          map skipped (take 5 shown.received.items)
          ++ received_cells None (drop 5 shown.received.items) shown.letters.items;
    }

-- the body on a Converter: the letters between the indicators are deciphered, and the indicators are skipped
abbrev pub pin_body : Day → DamagedText → List Cell
pin_body s shown =
    map skipped (take 10 shown.received.items)
    ++ received_cells (space_letter s) (slice_range shown.received.items 10 (length shown.received.items - 10))
    shown.letters.items ++ map skipped (drop (length shown.received.items - 10) shown.received.items)

-- On a Converter, the pin wheels first show the external letters, and the chosen letter is enciphered twelve times.
-- Then the pin wheels show the internal key, and the body is deciphered.
abbrev pub pin_received : Day → PinTextKeys → DamagedText → Work
pin_received s k shown = record {
  ground = k.indicator.external;
  key = choice_cells 0 k.indicator.chosen (enciphered_choice s k.indicator);
  start = k.internal.items;
  body = pin_body s shown;
}

-- the letters to press, and the letters that light up, for the text `shown` and its keys
abbrev pub work_with : Day → TextKeys → DamagedText → Work
work_with s (text_keys.Rotor i) shown = rotor_received s i shown
work_with s (text_keys.Pin k) shown = pin_received s k shown

-- the letters to press, and the letters that light up, on the sheet of a received part
abbrev pub received_work : Day → DamagedText → Work
received_work s shown = work_with s shown.keys shown

-- ---- What the code holds. No public contract cites this definition.

-- A machine for the day `s` can show the letters of the keys.
abbrev pub AreShowable : Day → TextKeys → Type 0
AreShowable s (text_keys.Rotor i) = HasIndicator s (Some i)
AreShowable s (text_keys.Pin k) =
    IsWindow (sheet_key s) k.indicator.external × IsWindow (sheet_key s) k.internal.items
