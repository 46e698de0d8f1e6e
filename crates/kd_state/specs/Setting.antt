-- The machine after a setting or a list of settings, and the reasons to refuse a setting.
use Rattle.std.specs.Prelude.{◌≡◌, ℕ, ◌-◌, nat_eq, nat_lt, ◌+◌, Bool, false, not, ◌&&◌, List, [], ◌∷◌, ◌++◌, map}
use Rattle.std.specs.Prelude.{slice_set, length, Option, Some, None, is_some, ok_or, Result, Ok, Err, ⊤, MatchResult}
use Rattle.std.specs.Prelude.{if◌then◌else◌}
use Rattle.std.specs.List.{list_any}
use Rattle.std.specs.Option.{option_map_or, option_or}
use Rattle.kd_tables.specs.declared.wheel.Wheel.{Wheel}
use Rattle.kd_tables.specs.declared.place.Place.{Place}
use Rattle.kd_tables.specs.declared.lug.Lug.{Lug}
use Rattle.kd_tables.specs.declared.lug.Lug.TheVariants.{Left, Right}
use Rattle.kd_tables.specs.Tables.{wheels_for, box_of, reflectors_of}
use Rattle.kd_tables.specs.Rings.{ring_of}
use Rattle.kd_tables.specs.{Pairs.has_letter, Places.place_rank}
use Rattle.kd_state.specs.Pins.{with_pin}
use Rattle.kd_state.specs.declared.machine.parts.Parts.{Parts}
use Rattle.kd_state.specs.declared.machine.parts.Parts.TheVariants.{Rotor, Pin}
use Rattle.kd_state.specs.declared.setting.Setting.{Setting}
use Rattle.kd_state.specs.declared.setting.Setting.TheVariants.{Pull, Put, Seat, SeatReflector, RingTo, Turn, PinTo}
use Rattle.kd_state.specs.declared.setting.Setting.TheVariants.{LugTo}
use Rattle.kd_state.specs.declared.setting.why.Why.{Why}
use Rattle.kd_state.specs.declared.setting.why.Why.TheVariants.{OtherModel, NoSuchCable, NotThere, NoLooseEnd}
use Rattle.kd_state.specs.declared.setting.why.Why.TheVariants.{SocketTaken, WheelNotAllowed, SlotEmpty, NotOnWheel}
use Rattle.kd_state.specs.declared.setting.why.Why.TheVariants.{NoSuchBar, PlaceTaken, WouldPass}
use Rattle.kd_state.specs.FirstFault.{◌>>=◌, ◌>>◌, demand}
use Rattle.kd_state.specs.SameParts.{same_wheel, same_reflector, place_in_box, numbered_item}
use Rattle.kd_state.specs.Machine.{cable_letters, letters_in_cables, cable_in_order}

-- whether two places on a bar are the same
abbrev pub is_same_place : Place → Place → Bool
is_same_place place other = nat_eq (place_rank place) (place_rank other)

-- whether an end of the cable is empty
abbrev pub has_loose_end : Option ℕ × Option ℕ → Bool
has_loose_end cable = not (is_some cable.0 && is_some cable.1)

-- a bar's standing after its left or its right lug is moved to another place
abbrev pub with_lug : Lug → Place → Place × Place → Place × Place
with_lug Left place bar = (place, bar.1)
with_lug Right place bar = (bar.0, place)

-- `cable` without `letter`, which must be one of the cable's letters
abbrev pub cable_without : ℕ → Option ℕ × Option ℕ → Option ℕ × Option ℕ
cable_without letter cable = if option_map_or (nat_eq letter) cable.0 false then (cable.1, None) else (cable.0, None)

-- `cable` with `letter` at an empty end, and with its letters in alphabetical order; `cable` must have an empty end
abbrev pub cable_with : ℕ → Option ℕ × Option ℕ → Option ℕ × Option ℕ
cable_with letter cable = cable_in_order (option_or cable.0 cable.1) (Some letter)

-- the content of a slot after `wheel` is taken out. A slot that held `wheel` is empty; any other slot keeps its
-- content, `seated`.
abbrev pub seat_without : Wheel → Option Wheel → Option Wheel
seat_without wheel seated = if option_map_or (same_wheel wheel) seated false then None else seated

-- ---- What a setting makes of a machine.
-- Source: this desk's own rules. The tables say which wheels and reflectors a model takes.
-- Code: `carry` changes the machine in place.
-- Test: tests/cases/desk-lists.toml

-- The machine after the setting, or the first reason to refuse the setting. The lines below are in the order of
-- testing. `Seat` empties the wheel's old slot. Another wheel that was in the new slot is then in no slot. Both wheels
-- keep their rings and window letters.
abbrev pub outcome : Parts → Setting → Result Parts Why
outcome (Rotor machine) (Pull cable letter) = do
  held ← ok_or (numbered_item machine.cables cable) NoSuchCable
  demand (has_letter (cable_letters held) letter) NotThere
  Ok (Rotor (record machine { cables = slice_set machine.cables (cable - 1) (cable_without letter held) }))
outcome (Rotor machine) (Put cable letter) = do
  held ← ok_or (numbered_item machine.cables cable) NoSuchCable
  demand (has_loose_end held) NoLooseEnd
  demand (not (has_letter (letters_in_cables machine.cables) letter)) SocketTaken
  Ok (Rotor (record machine { cables = slice_set machine.cables (cable - 1) (cable_with letter held) }))
outcome (Rotor machine) (Seat slot wheel) = do
  demand (list_any (same_wheel wheel) (wheels_for machine.model slot)) WheelNotAllowed
  let others = map (seat_without wheel) machine.slots
  Ok (Rotor (record machine { slots = slice_set others (slot - 1) (Some wheel) }))
outcome (Rotor machine) (SeatReflector reflector) = do
  demand (list_any (same_reflector reflector) (reflectors_of machine.model)) WheelNotAllowed
  Ok (Rotor (record machine { reflector = reflector }))
outcome (Rotor machine) (RingTo wheel letter) = do
  demand (list_any (same_wheel wheel) (box_of machine.model)) WheelNotAllowed
  Ok (Rotor (record machine { rings = slice_set machine.rings (place_in_box machine.model wheel) letter }))
outcome (Rotor machine) (Turn slot letter) = do
  seated ← ok_or (numbered_item machine.slots slot) SlotEmpty
  wheel ← ok_or seated SlotEmpty
  Ok (Rotor (record machine { letters = slice_set machine.letters (place_in_box machine.model wheel) letter }))
outcome (Pin machine) (Turn wheel letter) = do
  shown ← ok_or (numbered_item machine.letters wheel) SlotEmpty
  demand (has_letter (ring_of wheel) letter) NotOnWheel
  Ok (Pin (record machine { letters = slice_set machine.letters (wheel - 1) letter }))
outcome (Pin machine) (PinTo wheel letter effective) = do
  demand (has_letter (ring_of wheel) letter) NotOnWheel
  Ok (Pin (record machine { pins = with_pin machine.pins wheel letter effective }))
outcome (Pin machine) (LugTo bar lug place) = do
  standing ← ok_or (numbered_item machine.bars bar) NoSuchBar
  let moved = with_lug lug place standing
  demand (not (is_same_place moved.0 moved.1)) PlaceTaken
  demand (nat_lt (place_rank moved.0) (place_rank moved.1)) WouldPass
  Ok (Pin (record machine { bars = slice_set machine.bars (bar - 1) moved }))
outcome _ _ = Err OtherModel

-- The machine carries the setting out, and becomes the machine `after`.
abbrev pub Carries : Parts → Setting → Parts → Type 0
Carries machine setting after = outcome machine setting ≡ Ok after

-- The machine refuses the setting, and `why` is the first reason.
abbrev pub Refuses : Parts → Setting → Why → Type 0
Refuses machine setting why = outcome machine setting ≡ Err why

-- ---- Settings that are carried out one after another, and the first one that is refused.
-- Code: `carry_all` is a loop that stops at the first setting that is refused.
-- Test: tests/cases/desk-cards.toml

-- The settings in the list, carried out in order, turn the machine `machine` into the machine `last`.
abbrev pub Leads : Parts → List Setting → Parts → Type 0
Leads machine [] last = last ≡ machine
Leads machine (setting ∷ rest) last = (next : Parts) × Carries machine setting next × Leads next rest last

-- The first setting that the machine refuses has number `line`, counted from 1, and is refused for the reason `why`.
-- The machine has carried out all settings before this one.
pub record IsFirstIllegal (machine : Parts) (settings : List Setting) (line : ℕ) (why : Why) : Type 0 where
  pub front : List Setting
  pub setting : Setting
  pub rest : List Setting
  pub between : Parts
  pub split : settings ≡ front ++ setting ∷ rest
  pub number : line ≡ length front + 1
  pub leads : Leads machine front between
  pub refused : Refuses between setting why

-- ---- What `carry` answers for machines of one sort. No public contract cites this definition.

-- If `answer` is success, `machine` carries `setting` out and becomes `after`. Otherwise, `answer` is the first reason
-- to refuse `setting`, and `after` is the unchanged `machine`.
abbrev pub IsCarryAnswer : Parts → Setting → Parts → Result ⊤ Why → Type 0
IsCarryAnswer machine setting after answer =
    MatchResult answer (λ _. Carries machine setting after) (λ why. Refuses machine setting why × (after ≡ machine))
