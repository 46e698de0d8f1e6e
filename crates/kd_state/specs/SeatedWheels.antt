-- The key of a rotor machine, made from its wheels; and the wheels in a machine's slots.
use Rattle.std.specs.Prelude.{ℕ, List, map, Option, Some, None}
use Rattle.kd_tables.specs.declared.wheel.Wheel.{Wheel}
use Rattle.kd_tables.specs.declared.reflector.Reflector.{Reflector}
use Rattle.kd_enigma.specs.Cipher.{RotorKey}
use Rattle.kd_state.specs.declared.machine.rotor_parts.RotorParts.{RotorParts}
use Rattle.kd_state.specs.declared.sheet_day.rotor_entry.SheetWheel.{SheetWheel}
use Rattle.kd_state.specs.Machine.{ring_at, letter_at}

-- the key of a rotor machine with the wheels `wheels`, the reflector `reflector` and the plugboard `plugs`
abbrev pub key_of_wheels : List SheetWheel → Reflector → List ℕ → RotorKey
key_of_wheels wheels reflector plugs = record {
  wheels = map (λ w. w.wheel) wheels;
  rings = map (λ w. w.ring) wheels;
  window = map (λ w. w.letter) wheels;
  reflector = reflector;
  plugs = plugs;
}

-- ---- The wheels in a machine's slots, with rings and window letters. No public contract cites these definitions.

-- the wheel with this ring and this window letter; `None` if the ring or the letter is missing
abbrev pub wheel_with_letters : Wheel → Option ℕ → Option ℕ → Option SheetWheel
wheel_with_letters wheel (Some ring) (Some letter) = Some (record { wheel = wheel; ring = ring; letter = letter })
wheel_with_letters wheel _ _ = None

-- the wheel that a slot holds, with its ring and its window letter; `None` for an empty slot
abbrev pub wheel_in_seat : RotorParts → Option Wheel → Option SheetWheel
wheel_in_seat machine None = None
wheel_in_seat machine (Some wheel) = wheel_with_letters wheel (ring_at machine wheel) (letter_at machine wheel)
