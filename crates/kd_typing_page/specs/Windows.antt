-- The windows, lamps and keys on a rotor machine's page, in language `l`.
use Rattle.std.specs.Prelude.{decimal, ℕ, List, [], ◌∷◌, ◌++◌, flat_map, Option, Some, None}
use Rattle.kd_tables.specs.declared.wheel.Wheel.{Wheel}
use Rattle.kd_state.specs.declared.machine.parts.Parts.{Parts}
use Rattle.kd_state.specs.Machine.{machine_slot, model_of}
use Rattle.kd_language.specs.declared.language.Language.{Language}
use Rattle.kd_pictures.specs.declared.numbers.TheConstants.{SLOTS}
use Rattle.kd_language.specs.Language.{text_in}
use Rattle.kd_language.specs.Template.{filled}
use Rattle.kd_pictures.specs.Words.{model_name}
use Rattle.kd_typing_page.specs.declared.texts.TheConstants as texts

-- the window of a slot, which can show any letter
unfoldable pub window_text : Language → ℕ → List ℕ
window_text l slot =
    filled (text_in l texts.WINDOW) (decimal slot ∷ decimal slot ∷ decimal slot ∷ []) ++ texts.LETTERS.now
    ++ filled (text_in l texts.WINDOW_END) (decimal slot ∷ [])

-- the window of a slot; nothing if the machine has no such slot
abbrev pub slot_window : Language → ℕ → Option (Option Wheel) → List ℕ
slot_window l slot None = []
slot_window l slot (Some held) = window_text l slot

-- a window for each slot, the lamps, the keys and the tape
unfoldable pub rotor_desk : Language → Parts → List ℕ
rotor_desk l m =
    filled (text_in l texts.ROTOR_HEAD) (model_name (model_of m) ∷ [])
    ++ flat_map (λ slot. slot_window l slot (machine_slot m slot)) SLOTS
    ++ texts.LAMPS.now ++ text_in l texts.KEYS ++ texts.ROTOR_KEYS.now ++ text_in l texts.ROTOR_TAPE
