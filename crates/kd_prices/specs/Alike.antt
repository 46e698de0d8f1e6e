-- Equal rows and equal columns of a table of costs. Places are counted from 0.
use Rattle.std.specs.Prelude.{◌≡◌, ℕ, ◌≤◌, length, slice_get}
use Rattle.kd_state.specs.SheetDay.{Day, Pin, Rotor}
use Rattle.kd_state.specs.declared.machine.parts.Parts.{Parts, TheVariants.{Pin, Rotor}}

-- The cables at the places `place` and `other`, counted from 0, have the same letters. On a Converter, the bars at
-- these places have the same standing.
abbrev pub StandAlike : Parts → ℕ → ℕ → Type 0
StandAlike (Rotor machine) place other = slice_get machine.cables place ≡ slice_get machine.cables other
StandAlike (Pin machine) place other = slice_get machine.bars place ≡ slice_get machine.bars other

-- On a rotor machine, the day's columns at the places `place` and `other`, counted from 0, are both empty. On a
-- Converter, the day's rows at these places are equal.
abbrev pub ReadAlike : Day → ℕ → ℕ → Type 0
ReadAlike (Rotor day) place other = (length day.pairs ≤ place) × (length day.pairs ≤ other)
ReadAlike (Pin day) place other = slice_get day.rows place ≡ slice_get day.rows other
