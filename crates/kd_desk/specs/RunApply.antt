-- How the desk applies bytes, which should be a list or a card, to a machine.
-- Test: tests/cases/desk-cards.toml
use Rattle.std.specs.Prelude.{◌≡◌, ℕ, List, Result, Ok, Err}
use Rattle.kd_state.specs.declared.machine.parts.Parts.{Parts}
use Rattle.kd_state.specs.declared.setting.Setting.{Setting}
use Rattle.kd_state.specs.Setting.{IsFirstIllegal, Leads}
use Rattle.kd_state.specs.declared.setting.why.IllegalAt.{IllegalAt}
use Rattle.kd_sheet.specs.MachineFile.{machine_of}
use Rattle.kd_sheet.specs.MachineText.{machine_text}
use Rattle.kd_desk.specs.declared.fault.DeskFault.{DeskFault}
use Rattle.kd_desk.specs.declared.fault.DeskFault.TheVariants.{Device, Illegal}
use Rattle.kd_tables.specs.Ports.{Port}
use Rattle.kd_host.specs.Writing.{WritesText}
use Rattle.kd_desk.specs.Settings.{AreSettings, IsSettingsFault}

-- One of these cases holds:
-- - The bytes are neither a list nor a card, and the answer is the fault of the bytes.
-- - The machine refuses a setting, and the answer names the first refused line.
-- - The settings lead to a machine `n`, and the machine file of `n` is written. Reading this file gives exactly `n`.
pub data Applies (m : Parts) (bytes : List ℕ) (sink : Port) (answer : Result (Unit {0}) DeskFault) : Type 0 where
  NoSettings : (fault : DeskFault) → IsSettingsFault bytes fault → answer ≡ Err fault → Applies m bytes sink answer
  RefusedLine : (settings : List Setting) (fault : IllegalAt) → AreSettings bytes settings
      → IsFirstIllegal m settings fault.line fault.why → answer ≡ Err (Illegal fault) → Applies m bytes sink answer
  Carried : (settings : List Setting) (n : Parts) → AreSettings bytes settings → Leads m settings n
      → machine_of (machine_text n) ≡ Ok n → WritesText Device (machine_text n) sink answer
      → Applies m bytes sink answer
