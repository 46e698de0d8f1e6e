-- The permutation of one wheel in the machine.
-- Source: the published accounts of rings and windows.
-- Code: `Rotor::new` computes a wheel's permutations for all 26 window letters in advance.
-- Test: tests/refusals
use Rattle.std.specs.Prelude.{ℕ, ◌+◌, ◌-◌, ◌%◌, List}
use Rattle.kd_tables.specs.Permutation.{followed_by, shift}
use Rattle.kd_tables.specs.Tables.{wiring_of}
use Rattle.kd_tables.specs.declared.wheel.Wheel.{Wheel}

-- how many places a wheel is turned away from its published wiring: window letter minus ring letter, modulo 26
abbrev pub offset : ℕ → ℕ → ℕ
offset ring letter = (letter + (26 - ring)) % 26

-- the permutation of a wiring that is turned by `by` places
unfoldable pub wiring_turned_by : ℕ → List ℕ → List ℕ
wiring_turned_by by wiring = followed_by (followed_by (shift by) wiring) (shift (26 - by))

-- a wheel's permutation on the current's way in (from right to left), for a ring letter and a window letter
abbrev pub rotor : Wheel → ℕ → ℕ → List ℕ
rotor wheel ring letter = wiring_turned_by (offset ring letter) (wiring_of wheel)
