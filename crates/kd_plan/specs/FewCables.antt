-- If only the first `number` cables are in use, a day with at most `number` pairs needs no others.
use Rattle.std.specs.Prelude.{ℕ, ◌<◌, ◌≤◌, All, List, length}
use Rattle.kd_state.specs.declared.machine.parts.Parts.{Parts, TheVariants.{Pin, Rotor}}
use Rattle.kd_state.specs.{Setting.Leads, declared.setting.Setting.{Setting, TheVariants.{Pull, Put}}}
use Rattle.kd_state.specs.SheetDay.{Day, Pin, Rotor}
use Rattle.kd_plan.specs.Spares.{IsSpareCable, SparesStayFree}

-- All cables with numbers above `number` are spare: they have no letter.
abbrev pub UsesNoneAbove : ℕ → Parts → Type 0
UsesNoneAbove number (Rotor machine) = (cable : ℕ) → number < cable → IsSpareCable machine.cables cable
UsesNoneAbove number (Pin machine) = Unit {0}

-- The day has at most `number` pairs.
abbrev pub HasPairsUpTo : ℕ → Day → Type 0
HasPairsUpTo number (Rotor day) = length day.pairs ≤ number
HasPairsUpTo number (Pin day) = Unit {0}

-- The setting names no cable with a number above `number`.
abbrev pub NamesNoneAbove : ℕ → Setting → Type 0
NamesNoneAbove number (Pull cable letter) = cable ≤ number
NamesNoneAbove number (Put cable letter) = cable ≤ number
NamesNoneAbove number _ = Unit {0}

-- Suppose that only the first `number` cables are in use, and that the day has at most `number` pairs. If the machine
-- carries out settings that leave spare cables free, these settings name only the first `number` cables. Afterwards,
-- only these cables are in use.
abbrev pub FewCablesServe : Type 0
FewCablesServe =
    (number : ℕ) (machine after : Parts) (day : Day) (settings : List Setting) → UsesNoneAbove number machine
    → HasPairsUpTo number day
    → SparesStayFree machine day settings → Leads machine settings after
    → All (NamesNoneAbove number) settings × UsesNoneAbove number after
