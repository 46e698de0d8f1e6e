-- The letters that a machine shows after some letters were pressed.
use Rattle.std.specs.Prelude.{ℕ, List}
use Rattle.kd_pins.specs.PinWheels.{pins_of}
use Rattle.kd_drum.specs.Converter.{pin_key_after}
use Rattle.kd_state.specs.declared.sheet_day.pin_entry.PinEntry.{PinEntry}
use Rattle.kd_state.specs.SheetDay.{Day}
use Rattle.kd_state.specs.EngineKey.{EngineKey, Rotor, Pin, engine_key_after, key_with_window}
use Rattle.kd_state.specs.OwnKeys.{sheet_key}

-- the letters in the windows, or on the pin wheels, of a machine with this key
abbrev pub letters_shown : EngineKey → List ℕ
letters_shown (Rotor key) = key.window
letters_shown (Pin key) = key.letters

-- The letters that a machine of the day `s` shows after `presses` key presses. Before the first of them, it shows
-- `start`.
abbrev pub letters_after : Day → List ℕ → ℕ → List ℕ
letters_after s start presses =
    letters_shown (engine_key_after (key_with_window (sheet_key s) start) presses)

-- ---- What the code holds. No public contract cites this definition.

-- The letters that a Converter's pin wheels show after `presses` letters were enciphered. Before, the wheels show
-- `start`.
abbrev pub wheels_after : PinEntry → List ℕ → ℕ → List ℕ
wheels_after entry start presses =
    (pin_key_after (record { pins = pins_of entry.pins; letters = start; bars = entry.rows }) presses).letters
