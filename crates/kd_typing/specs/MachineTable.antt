-- The table of a machine of any model, in which typing looks up letters.
use Rattle.std.specs.Prelude.{◌≡◌, ◌<◌, List, ℕ, All}
use Rattle.kd_state.specs.EngineKey.{EngineKey, IsWindow}
use Rattle.kd_state.specs.EngineKey as keys
use Rattle.kd_state.specs.OwnKeys.{IsTurnedTo, physical_key}
use Rattle.kd_state.specs.TwoCiphers.{physical_cipher}
use Rattle.kd_state.specs.declared.machine.parts.Parts.{Parts}
use Rattle.kd_typing.specs.PinTable.{PinTable, pin_table, printed_text}
use Rattle.kd_typing.specs.RotorTable.{RotorTable, rotor_table, typed_by}
use Rattle.kd_typing.specs.TableText.{lines_text, pin_lines, pin_table_in, rotor_lines, rotor_table_in}

-- the table of a rotor machine or of a Converter
pub data MachineTable : Type 0 where
  Rotor : RotorTable → MachineTable
  Pin : PinTable → MachineTable

-- The letters that light up or are printed when `text` is typed on a table. Before the first key press, the machine
-- shows the letters `window`.
abbrev pub typed_on : MachineTable → List ℕ → List ℕ → List ℕ
typed_on (Rotor table) window text = typed_by table window text
typed_on (Pin table) window text = printed_text table window text

-- the lines of a table as text
abbrev pub table_text : MachineTable → List ℕ
table_text (Rotor table) = lines_text (rotor_lines table)
table_text (Pin table) = lines_text (pin_lines table)

-- the table of a machine with the key `key`
abbrev pub table_of_key : EngineKey → MachineTable
table_of_key (keys.Rotor key) = Rotor (rotor_table key)
table_of_key (keys.Pin key) = Pin (pin_table key)

-- the letters that a machine with the key `key` shows
abbrev pub shown_letters : EngineKey → List ℕ
shown_letters (keys.Rotor key) = key.window
shown_letters (keys.Pin key) = key.letters

-- the table that a page's script reads from `text`: a Converter's table if `key` is a Converter's key, otherwise a
-- rotor machine's table
abbrev pub table_in : EngineKey → List ℕ → MachineTable
table_in (keys.Rotor key) text = Rotor (rotor_table_in text)
table_in (keys.Pin key) text = Pin (pin_table_in text)

-- the text of a machine's table
abbrev pub machine_table_text : Parts → List ℕ
machine_table_text machine = table_text (table_of_key (physical_key machine))

-- Whoever types by the machine's table, read from its text, gets the machine's own ciphertext. At the start, the
-- windows or pin wheels may show any letters that the machine can show.
abbrev pub TypesAsMachine : Parts → Type 0
TypesAsMachine machine =
    (turned : Parts) (window text : List ℕ) → IsWindow (physical_key machine) window → IsTurnedTo machine window turned
    → All (λ letter. letter < 26) text
    → typed_on (table_in (physical_key machine) (machine_table_text machine)) window text ≡ physical_cipher turned text
