-- What is worked for a part: its cells, and its internal key.
use Rattle.std.proofs.Common.{◌≡◌, ℕ, ◌≤◌, List, [], ◌∷◌, length, arith, Option, None, Some, MatchOption, IsSome, map}
use Rattle.std.proofs.Common.{refl}
use Rattle.kd_state.specs.SheetDay.{Day, Pin, Rotor}
use Rattle.kd_state.specs.EngineKey.{IsWindow}
use Rattle.kd_state.specs.OwnKeys.{sheet_key}
use Rattle.kd_form.specs.declared.keys.Keys.TheVariants.{Pin}
use Rattle.kd_form.specs.declared.keys.PinKeys.{PinKeys}
use Rattle.kd_form.specs.Keys.{AreKeys}
use Rattle.std.proofs.lemmas.List.{length-map}
use Rattle.kd_form.specs.InternalKey.{HaveNoInternalKey, IsInternalKey}
use Rattle.kd_part_sheet.specs.Cells.{copied, pressed_cells}
use Rattle.kd_part_sheet.specs.PartWork.{IsWorkable, Work, pin_work}

pub pressed_few : (keys lamps : List ℕ) → length (pressed_cells keys lamps) ≤ length keys
pressed_few [] lamps = omega arith
pressed_few (key ∷ keys) [] = omega arith
pressed_few (key ∷ keys) (lamp ∷ lamps) = omega (arith, pressed_few keys lamps)

pub copied_few : (letters : List ℕ) → length (map copied letters) ≡ length letters
copied_few letters = grind (arith, length-map)

-- a key that is picked from letters that have an internal key
pub key_picked : {V : Type 0} (letters : List ℕ) (items : V → List ℕ) (found : Option V)
    → MatchOption found (HaveNoInternalKey letters) (λ key. IsInternalKey letters (items key))
    → ((internal : List ℕ) × IsInternalKey letters internal) → IsSome found
key_picked letters items None none (internal, is) = absurd (none is.places internal is.picked)
key_picked letters items (Some key) is has = refl

pub picked_key : {V : Type 0} (letters : List ℕ) (items : V → List ℕ) (found : Option V) (key : V)
    → MatchOption found (HaveNoInternalKey letters) (λ key. IsInternalKey letters (items key)) → found ≡ Some key
    → IsInternalKey letters (items key)
picked_key letters items found key is same = rw same at is

-- On a Converter, the machine can show the external letters and the internal key.
pub pin_workable : (s : Day) (k : PinKeys) (internal text letters : List ℕ) (work : Work) → AreKeys s (Pin k)
    → IsWindow (sheet_key s) k.external → IsInternalKey letters internal → work ≡ pin_work s k internal text
    → IsWorkable s work
pin_workable (Pin s) k internal text letters work are window is same =
    rw same (record { ground = window; start = is.picked.on_wheels })
pin_workable (Rotor s) k internal text letters work are window is same = absurd are
