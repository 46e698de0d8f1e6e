-- The machine that a day of a sheet asks for.
use Rattle.std.specs.Prelude.{◌≡◌, ℕ, List}
use Rattle.kd_state.specs.declared.machine.parts.Parts.{Parts}
use Rattle.kd_state.specs.Machine.{IsMachine}
use Rattle.kd_state.specs.OnKey.{ReadsAs}
use Rattle.kd_state.specs.SheetDay.{Day}
use Rattle.kd_state.specs.TwoCiphers.{IsReady, physical_cipher, sheet_cipher}

-- The machine is set as the day says, and shows the day's letters. It is ready, and enciphers as the day asks.
pub record IsSheetsMachine (after : Parts) (day : Day) : Type 0 where
  pub machine : IsMachine after
  pub reads : ReadsAs after day
  pub ready : IsReady after
  pub enciphers : (text : List ℕ) → physical_cipher after text ≡ sheet_cipher day text
