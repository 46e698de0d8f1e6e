-- If a machine uses only its first `number` cables, these cables suffice for a month with at most `number` pairs a day.
use Rattle.std.specs.Prelude.{◌≡◌, ℕ, List, Option, Some, Ok, All}
use Rattle.kd_state.specs.declared.machine.parts.Parts.{Parts}
use Rattle.kd_state.specs.declared.setting.Setting.{Setting}
use Rattle.kd_state.specs.SheetDay.{Day}
use Rattle.kd_plan.specs.FewCables.{UsesNoneAbove, HasPairsUpTo, NamesNoneAbove}
use Rattle.kd_sheet.specs.MachineFile.{machine_of}
use Rattle.kd_sheet.specs.Sheet.{day_of}
use Rattle.kd_sheet.specs.SheetFile.{sheet_of}
use Rattle.kd_desk.specs.Month.{CardAndFile, AreWrittenInTurn}
use Rattle.kd_desk.specs.Settings.{AreSettings}

-- The machine that `file` describes uses no cable with a number above `number`.
abbrev pub FileUsesNoneAbove : ℕ → List ℕ → Type 0
FileUsesNoneAbove number file = (m : Parts) → machine_of file ≡ Ok m → UsesNoneAbove number m

-- The settings of `card` name no cable with a number above `number`.
abbrev pub CardNamesNoneAbove : ℕ → List ℕ → Type 0
CardNamesNoneAbove number card =
    (settings : List Setting) → AreSettings card settings → All (NamesNoneAbove number) settings

-- Day `day` of `sheet` has at most `number` pairs.
abbrev pub DayHasPairsUpTo : ℕ → List ℕ → ℕ → Type 0
DayHasPairsUpTo number sheet day =
    (month : List (Option Day)) (s : Day) → sheet_of sheet ≡ Ok month → day_of month day ≡ Some s
    → HasPairsUpTo number s

-- The card of a day, and the machine file after the card, use only the first `number` cables.
pub record UsesFirstCablesOnly (number : ℕ) (papers : CardAndFile) : Type 0 where
  pub card : CardNamesNoneAbove number papers.card
  pub file : FileUsesNoneAbove number papers.file

-- Suppose that the first machine file uses only the first `number` cables, and each day has at most `number` pairs.
-- Then the month's cards and machine files use only these cables. For example, cables 1 to 10 suffice for ten pairs a
-- day.
abbrev pub FewCablesServeAMonth : Type 0
FewCablesServeAMonth =
    (number : ℕ) (file sheet days : List ℕ) (papers : List CardAndFile) → AreWrittenInTurn file sheet days papers
    → FileUsesNoneAbove number file → All (DayHasPairsUpTo number sheet) days → All (UsesFirstCablesOnly number) papers
