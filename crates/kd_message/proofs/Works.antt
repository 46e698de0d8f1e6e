-- What is worked for a received part: its cells, and its ground setting.
use Rattle.std.proofs.Common.{◌≡◌, ℕ, ◌≤◌, List, [], ◌∷◌, length, arith, Option, Some, map}
use Rattle.kd_state.specs.SheetDay.{Day, Pin, Rotor}
use Rattle.kd_state.specs.EngineKey.{IsWindow}
use Rattle.kd_state.specs.OwnKeys.{sheet_key}
use Rattle.kd_form.specs.declared.heading.Indicator.{Indicator}
use Rattle.kd_form.specs.BodyCipher.{HasIndicator}
use Rattle.std.proofs.lemmas.List.{length-map}
use Rattle.kd_part_sheet.specs.Cells.{received_cells, skipped}

pub received_few : (for_space : Option ℕ) (keys text : List (Option ℕ))
    → length (received_cells for_space keys text) ≤ length keys
received_few for_space [] text = omega arith
received_few for_space (key ∷ keys) [] = omega arith
received_few for_space (key ∷ keys) (letter ∷ text) = omega (arith, received_few for_space keys text)

pub skipped_few : (letters : List (Option ℕ)) → length (map skipped letters) ≡ length letters
skipped_few letters = grind (arith, length-map)

-- the ground setting can show in the windows
pub ground_is_window : (s : Day) (i : Indicator) → HasIndicator s (Some i) → IsWindow (sheet_key s) i.ground_setting
ground_is_window (Rotor s) i has = grind (arith, length-map)
ground_is_window (Pin s) i has = absurd has
