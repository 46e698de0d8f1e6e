-- What the sheet of a part shows: the windows to set, the letters to press, and the letters of the lamps that have to
-- light up.
use Rattle.std.specs.Prelude.{◌≡◌, ℕ, List, ◌++◌, map}
use Rattle.kd_state.specs.SheetDay.{Day}
use Rattle.kd_state.specs.EngineKey.{IsWindow}
use Rattle.kd_state.specs.OwnKeys.{sheet_key}
use Rattle.kd_form.specs.declared.keys.Keys.{Keys}
use Rattle.kd_form.specs.declared.keys.Keys.TheVariants as keys
use Rattle.kd_form.specs.declared.keys.PinKeys.{PinKeys}
use Rattle.kd_form.specs.declared.keys.RotorKeys.{RotorKeys}
use Rattle.kd_form.specs.InternalKey.{IsInternalKey}
use Rattle.kd_form.specs.PartMaking.{cipher_from, enciphered_choice, fill_last_group, pin_indicators}
use Rattle.kd_part_sheet.specs.declared.cells.Cell.{Cell}
use Rattle.kd_part_sheet.specs.Cells.{choice_cells, copied, pressed_cells}

-- The letters on the sheet of a part. The operator first sets the letters `ground`, and presses the letters in `key`.
-- This gives the internal key on a Converter. On a rotor machine, it gives the enciphered key of a part to send, or the
-- message key of a received part. Before the text, the operator sets the letters `start`. `body` has the letters of
-- the body.
pub record Work : Type 0 where
  pub ground : List ℕ
  pub key : List Cell
  pub start : List ℕ
  pub body : List Cell

-- The letters on a part's sheet for a rotor machine. The windows first show the ground setting. The
-- operator presses the message key, and the lamps show the enciphered key for the heading. Then the
-- operator sets the windows to the message key, and presses the text. The operator copies the
-- fillers and the indicator group, without key presses.
abbrev pub rotor_work : Day → RotorKeys → List ℕ → Work
rotor_work s k text = record {
  ground = k.ground_setting;
  key = pressed_cells k.message_key (cipher_from s k.ground_setting k.message_key);
  start = k.message_key;
  body = map copied k.fillers ++ map copied k.group ++ pressed_cells text (cipher_from s k.message_key text);
}

-- The letters on a part's sheet for a Converter. The pin wheels first show the external letters, and the chosen letter
-- is enciphered twelve times. Then the wheels are set to the internal key, and the text is enciphered, with its last
-- group filled. The indicators are copied before and after the text.
abbrev pub pin_work : Day → PinKeys → List ℕ → List ℕ → Work
pin_work s k internal text = record {
  ground = k.external;
  key = choice_cells 0 k.chosen (enciphered_choice s k);
  start = internal;
  body = map copied (pin_indicators s k)
      ++ pressed_cells (fill_last_group text) (cipher_from s internal (fill_last_group text))
      ++ map copied (pin_indicators s k);
}

-- `work` shows how `text` is enciphered with the given keys on the day `s`. It has the letters to set, the letters to
-- press, and their ciphertext.
abbrev pub IsWork : Day → Keys → List ℕ → Work → Type 0
IsWork s (keys.Rotor k) text work = work ≡ rotor_work s k text
IsWork s (keys.Pin k) text work =
    (internal : List ℕ) × IsInternalKey (enciphered_choice s k) internal × (work ≡ pin_work s k internal text)

-- The machine can show the letters that the operator has to set: one in each slot, or one on each pin wheel.
pub record IsWorkable (s : Day) (work : Work) : Type 0 where
  pub ground : IsWindow (sheet_key s) work.ground
  pub start : IsWindow (sheet_key s) work.start
