-- Laws of the desk. No bytes give two lists of settings, two faults, or a list and a fault. The cards of a month set
-- the machine to each day.
use Rattle.std.specs.Prelude.{◌≡◌, ◌≢◌, ◌≤◌, ℕ, List, Option, Ok}
use Rattle.kd_tables.specs.declared.model.Model.TheVariants.{M209}
use Rattle.kd_state.specs.declared.machine.parts.Parts.{Parts}
use Rattle.kd_state.specs.declared.setting.Setting.{Setting}
use Rattle.kd_state.specs.Machine.{model_of}
use Rattle.kd_state.specs.SheetDay.{Day}
use Rattle.kd_card.specs.Months.{DayAfterDay, ReachesDay, total_length}
use Rattle.kd_sheet.specs.{MachineFile.machine_of, SheetFile.sheet_of}
use Rattle.kd_desk.specs.declared.fault.DeskFault.{DeskFault}
use Rattle.kd_desk.specs.Month.{CardAndFile, AreWrittenInTurn, SetTheMachineInTurn, AreDaysOf, AreCardsOf}
use Rattle.kd_desk.specs.Settings.{AreSettings, IsSettingsFault}

-- Bytes give at most one list of settings.
abbrev pub BytesGiveOneList : Type 0
BytesGiveOneList = (bytes : List ℕ) (xs ys : List Setting) → AreSettings bytes xs → AreSettings bytes ys → xs ≡ ys

-- Bytes that give a list of settings have no fault.
abbrev pub SettingsHaveNoFault : Type 0
SettingsHaveNoFault =
    (bytes : List ℕ) (xs : List Setting) (fault : DeskFault) → AreSettings bytes xs → ¬ (IsSettingsFault bytes fault)

-- If bytes are read as a list or a card, they have at most one fault.
abbrev pub SettingsHaveOneFault : Type 0
SettingsHaveOneFault =
    (bytes : List ℕ) (fault other : DeskFault) → IsSettingsFault bytes fault → IsSettingsFault bytes other
    → fault ≡ other

-- ---- The laws of a month: its cards set the machine to each day. On an Enigma, these cards have the fewest settings
-- in all.

-- If cards and machine files are written for one day after another, they set the machine to each of these days.
abbrev pub MonthsSetTheMachine : Type 0
MonthsSetTheMachine =
    (file sheet numbers : List ℕ) (papers : List CardAndFile) → AreWrittenInTurn file sheet numbers papers
    → SetTheMachineInTurn file sheet numbers papers

-- Suppose that cards for a rotor machine are written for one day after another. These cards have the fewest settings
-- in all. Other lists that reach these days, in this order and from the same machine, have no fewer settings.
abbrev pub MonthsAreFewest : Type 0
MonthsAreFewest =
    (file sheet numbers : List ℕ) (papers : List CardAndFile) (m : Parts) (month : List (Option Day)) (days : List Day)
    (cards lists : List (List Setting)) → machine_of file ≡ Ok m → sheet_of sheet ≡ Ok month → model_of m ≢ M209
    → AreDaysOf month numbers days → AreWrittenInTurn file sheet numbers papers → AreCardsOf papers cards
    → DayAfterDay ReachesDay m days lists → total_length cards ≤ total_length lists
