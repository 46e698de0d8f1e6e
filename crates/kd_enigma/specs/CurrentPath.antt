-- The current's path: in through some wheels, through the core, and back through the same wheels. The core is all that
-- lies to the left of these wheels: the reflector, and perhaps further wheels. No public contract cites this file.
use Rattle.std.specs.Prelude.{ℕ, List, ◌∷◌, map}
use Rattle.kd_tables.specs.Permutation.{alphabet, followed_by, inverse}
use Rattle.kd_tables.specs.declared.wheel.Wheel.{Wheel}
use Rattle.kd_enigma.specs.Rotor.{rotor}

-- A wheel with its ring and its board. The board is a permutation that the current passes on its way in, just before
-- the wheel. It is the plugboard, or changes nothing.
pub record SeatedWheel : Type 0 where
  pub wheel : Wheel
  pub ring : ℕ
  pub board : List ℕ

-- the current's path around `core`: in through the board and the wheel, through `core`, and back through the wheel and
-- the board
abbrev pub around_wheel : List ℕ → List ℕ → List ℕ → List ℕ
around_wheel board core wheel = followed_by (followed_by (followed_by board wheel) core)
    (followed_by (inverse wheel) board)

-- The path of the current: in through a list of wheels to `core`, through `core`, and out through the wheels again. The
-- wheels' windows show `window`. Wheels and letters are listed from the wheel next to `core`.
abbrev pub around_wheels : List ℕ → List SeatedWheel → List ℕ → List ℕ
around_wheels core (s ∷ seated) (letter ∷ window) = around_wheels
    (around_wheel s.board core (rotor s.wheel s.ring letter)) seated window
around_wheels core _ _ = core

-- for each letter that a wheel can show, two permutations: the current's way in through board and wheel, and its way
-- back
abbrev pub ways_by_window : Wheel → ℕ → List ℕ → List (List ℕ × List ℕ)
ways_by_window wheel ring board = map (λ window. let turns = rotor wheel ring window in
    (followed_by board turns, followed_by (inverse turns) board)) alphabet
