-- The wheels and permutations that the code keeps besides a machine's key. No public contract cites this file.
use Rattle.std.specs.Prelude.{◌≡◌, ℕ, ◌-◌, List, [], ◌∷◌, length, take}
use Rattle.kd_tables.specs.Permutation.{alphabet}
use Rattle.kd_tables.specs.Tables.{reflector_of}
use Rattle.kd_tables.specs.declared.reflector.Reflector.{Reflector}
use Rattle.kd_tables.specs.declared.wheel.Wheel.{Wheel}
use Rattle.kd_step.specs.Stepper.{Stepping}
use Rattle.kd_enigma.specs.CurrentPath.{SeatedWheel, around_wheels}
use Rattle.kd_enigma.specs.Cipher.{RotorKey, IsPlugboard, path}

-- `slots` without its last item. If each slot has an item, the last item belongs to the right wheel.
abbrev pub slow_slots : {X : Type 0} → List X → List X
slow_slots slots = take (length slots - 1) slots

-- The wheels in their slots, each with the board to its right. The right wheel has the plugboard, and each other wheel
-- has a permutation that changes nothing.
abbrev pub wheels_with_boards : List ℕ → List Wheel → List ℕ → List SeatedWheel
wheels_with_boards plugs (wheel ∷ []) (ring ∷ rings) = record { wheel = wheel; ring = ring; board = plugs } ∷ []
wheels_with_boards plugs (wheel ∷ wheels) (ring ∷ rings) =
    record { wheel = wheel; ring = ring; board = alphabet } ∷ wheels_with_boards plugs wheels rings
wheels_with_boards plugs _ _ = []

-- the key of a machine, from its stepper, rings, reflector and plugboard
abbrev pub key_of_parts : Stepping → List ℕ → Reflector → List ℕ → RotorKey
key_of_parts stepper rings reflector plugs = record {
  wheels = stepper.wheels;
  rings = rings;
  window = stepper.window;
  reflector = reflector;
  plugs = plugs;
}

-- The values that the code keeps for a key: the wheels in their slots, and three permutations. `reflecting` is the
-- reflector's permutation. `slow_map` is the path through all wheels but the right one to the reflector, and back.
-- `path_map` is the whole path while the key's window letters show.
pub record AreMapsOf (key : RotorKey) (seated : List SeatedWheel) (reflecting slow_map path_map : List ℕ) : Type 0 where
  pub seats : seated ≡ wheels_with_boards key.plugs key.wheels key.rings
  pub board : IsPlugboard key.plugs
  pub reflector : reflecting ≡ reflector_of key.reflector
  pub around_slow : slow_map ≡ around_wheels reflecting (slow_slots seated) (slow_slots key.window)
  pub path_shown : path_map ≡ path key key.window
