-- Typing on the table of a machine.
use Rattle.std.proofs.Common.{ap, ◌≡◌, ◌∙◌, ◌⊎◌, ℕ, List, arith, length, subst, sym}
use Rattle.std.proofs.lemmas.List.{length-map}
use Rattle.kd_tables.specs.declared.reflector.Reflector.{Reflector}
use Rattle.kd_enigma.specs.Cipher.{IsPlugboard}
use Rattle.kd_state.proofs.Keys.{turned_engine}
use Rattle.kd_state.specs.EngineKey as keys
use Rattle.kd_state.specs.EngineKey.{EngineKey, IsWindow, cipher, key_with_window}
use Rattle.kd_state.specs.OwnKeys.{physical_key}
use Rattle.kd_state.specs.SeatedWheels.{key_of_wheels}
use Rattle.kd_state.specs.declared.machine.parts.Parts.TheVariants.{Pin, Rotor}
use Rattle.kd_state.specs.declared.machine.pin_parts.PinParts.{PinParts}
use Rattle.kd_state.specs.declared.machine.rotor_parts.RotorParts.{RotorParts}
use Rattle.kd_state.specs.declared.sheet_day.rotor_entry.SheetWheel.{SheetWheel}
use Rattle.kd_typing.proofs.{PinTyping.typing_on_pin_table, RotorTyping.typing_on_rotor_table}
use Rattle.kd_typing.specs.MachineTable.{TypesAsMachine, table_in, table_of_key, table_text, typed_on}
use Rattle.kd_typing.proofs.ReadTables.{pin_tables_are_read, rotor_tables_are_read}
use Rattle.kd_typing.specs.PinTable.{printed_text}
use Rattle.kd_typing.specs.RotorTable.{CanShow, typed_by}

three_or_four : (wheels : List SheetWheel) (reflector : Reflector) (plugs window : List ℕ)
    → (length wheels ≡ 3) ⊎ (length wheels ≡ 4) → IsPlugboard plugs
    → IsWindow (keys.Rotor (key_of_wheels wheels reflector plugs)) window
    → CanShow (key_of_wheels wheels reflector plugs) window
three_or_four wheels reflector plugs window slots board shows =
    let all = length-map wheels (λ (w : SheetWheel). w.wheel) in
    record {
      least = grind (arith, all);
      most = grind (arith, all);
      rings = length-map wheels (λ (w : SheetWheel). w.ring) ∙ sym all;
      slots = shows.count;
      letters = shows.within;
      plugs = board;
    }

pub types_as_rotor_machine : (m : RotorParts) (wheels : List SheetWheel) (reflector : Reflector) (plugs : List ℕ)
    → physical_key (Rotor m) ≡ keys.Rotor (key_of_wheels wheels reflector plugs)
    → (length wheels ≡ 3) ⊎ (length wheels ≡ 4) → IsPlugboard plugs → TypesAsMachine (Rotor m)
types_as_rotor_machine m wheels reflector plugs is slots board turned window text shows turns letters =
    subst (λ key. IsWindow key window
    → typed_on (table_in key (table_text (table_of_key key))) window text ≡ cipher (key_with_window key window) text)
    (sym is) (λ can. let key = key_of_wheels wheels reflector plugs in
    ap (λ table. typed_by table window text) (rotor_tables_are_read key)
    ∙ typing_on_rotor_table key window text (three_or_four wheels reflector plugs window slots board can) letters) shows
    ∙ turned_engine (Rotor m) turned window text turns

pub types_as_converter : (m : PinParts) → TypesAsMachine (Pin m)
types_as_converter m turned window text shows turns letters =
    ap (λ table. printed_text table window text) (pin_tables_are_read _)
    ∙ typing_on_pin_table _ window text letters ∙ turned_engine (Pin m) turned window text turns
