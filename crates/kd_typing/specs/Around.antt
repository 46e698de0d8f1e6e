-- The path of the current around the core, wheel by wheel. No public contract cites this file.
use Rattle.std.specs.Prelude.{ℕ, List, ◌∷◌}
use Rattle.kd_tables.specs.Permutation.{followed_by, inverse}
use Rattle.kd_enigma.specs.Rotor.{rotor}
use Rattle.kd_state.specs.declared.sheet_day.rotor_entry.SheetWheel.{SheetWheel}

-- For each place at which the current enters a wheel, the place at which it comes back out of the wheel. On its way, it
-- goes through the wheel, through `core`, and back through the wheel. The wheel's window shows `letter`.
unfoldable pub around_one : List ℕ → SheetWheel → ℕ → List ℕ
around_one core w letter =
    let turns = rotor w.wheel w.ring letter in followed_by turns (followed_by core (inverse turns))

-- For each place at which the current enters the last of the wheels, the place at which it comes back out. On its way,
-- it goes through the wheels, through `core`, and back through the wheels. The first of the wheels is next to `core`.
abbrev pub around_all : List ℕ → List SheetWheel → List ℕ → List ℕ
around_all core (w ∷ wheels) (letter ∷ window) = around_all (around_one core w letter) wheels window
around_all core _ _ = core
