-- The values of a day of a key sheet.
use Rattle.std.specs.Prelude.{◌≡◌, ℕ, ◌<◌, ◌≤◌, List, length, map, All, Any, Contains, IsPermutation, Option, Some}
use Rattle.std.specs.Prelude.{None}
use Rattle.std.specs.Option.{option_map}
use Rattle.kd_tables.specs.declared.model.Model.{Model}
use Rattle.kd_tables.specs.declared.model.Model.TheVariants.{M209}
use Rattle.kd_tables.specs.declared.wheel.Wheel.{Wheel}
use Rattle.kd_tables.specs.declared.reflector.Reflector.{Reflector}
use Rattle.kd_tables.specs.Pairs.{letters_in_pairs, NoLetterTwice}
use Rattle.kd_tables.specs.Places.{IsReading}
use Rattle.kd_tables.specs.Tables.{reflectors_of}
use Rattle.kd_pins.specs.declared.pin_set.PinSet.{PinSet}
use Rattle.kd_state.specs.declared.sheet_day.rotor_entry.SheetWheel.{SheetWheel}
use Rattle.kd_state.specs.SameParts.{numbered_item}
use Rattle.kd_state.specs.Machine.{AreLegalSeats, AreLetters, AreOnWheels, HasAllPins}

-- The values of a day of a rotor machine. `wheels` has, for each slot from the left, a wheel with its ring and its
-- window letter. `pairs` are the plugged pairs. `groups` are groups of three letters that mark the day's messages.
pub record RotorDay : Type 0 where
  pub day : ℕ
  pub model : Model
  pub reflector : Reflector
  pub wheels : List SheetWheel
  pub pairs : List (ℕ × ℕ)
  pub groups : List (List ℕ)

-- A Converter's day: the bars' readings, the effective pins, the wheels' letters, and the two letters that name the key
-- list.
pub record PinDay : Type 0 where
  pub day : ℕ
  pub rows : List (ℕ × ℕ)
  pub pins : PinSet
  pub window : List ℕ
  pub list : List ℕ

-- a rotor machine's day, made from the values of its fields
abbrev pub rotor_day_of : ℕ → Model → Reflector → List SheetWheel → List (ℕ × ℕ) → List (List ℕ) → RotorDay
rotor_day_of day model reflector wheels pairs groups = record {
  day = day;
  model = model;
  reflector = reflector;
  wheels = wheels;
  pairs = pairs;
  groups = groups;
}

-- a Converter's day with these values
abbrev pub pin_day_of : ℕ → List (ℕ × ℕ) → PinSet → List ℕ → List ℕ → PinDay
pin_day_of day rows pins window list = record { day = day; rows = rows; pins = pins; window = window; list = list }

-- The values of a day, for a rotor machine or for a Converter.
pub data Day : Type 0 where
  Rotor : RotorDay → Day
  Pin : PinDay → Day

-- ---- Which values a day can have.
-- Code: a day keeps its pairs and groups in lists of bounded length.
-- Test: kd_trials/src/state.rt

-- `number` can be a day of a month: it is from 1 to 31.
pub record IsDayNumber (number : ℕ) : Type 0 where
  pub first : 1 ≤ number
  pub last : number ≤ 31

-- There are at most 13 pairs. All letters in the pairs are below 26, and all are different.
pub record ArePairs (pairs : List (ℕ × ℕ)) : Type 0 where
  pub few : length pairs ≤ 13
  pub within : All (λ letter. letter < 26) (letters_in_pairs pairs)
  pub apart : NoLetterTwice pairs

-- The wheel's ring and its window letter are below 26.
pub record HasWheelLetters (wheel : SheetWheel) : Type 0 where
  pub ring : wheel.ring < 26
  pub letter : wheel.letter < 26

-- the contents of slots that hold these wheels; rings and window letters are left out
abbrev pub seats_of_wheels : List SheetWheel → List (Option Wheel)
seats_of_wheels wheels = map (λ w. Some w.wheel) wheels

-- The values of a rotor machine's day are legal: a key sheet can have them.
pub record IsLegalRotorDay (values : RotorDay) : Type 0 where
  pub day : IsDayNumber values.day
  pub reflector : Contains (reflectors_of values.model) values.reflector
  pub wheels : AreLegalSeats values.model (seats_of_wheels values.wheels)
  pub letters : All HasWheelLetters values.wheels
  pub pairs : ArePairs values.pairs
  pub few_groups : length values.groups ≤ 4
  pub groups : All (AreLetters 3) values.groups

-- The values of a Converter's day are legal: a key sheet can have them.
pub record IsLegalPinDay (values : PinDay) : Type 0 where
  pub day : IsDayNumber values.day
  pub count : length values.rows ≡ 27
  pub rows : All IsReading values.rows
  pub pins : HasAllPins values.pins
  pub window : AreOnWheels values.window
  pub list : AreLetters 2 values.list

-- The values of the day are legal: a key sheet can have them.
abbrev pub IsLegalDay : Day → Type 0
IsLegalDay (Rotor values) = IsLegalRotorDay values
IsLegalDay (Pin values) = IsLegalPinDay values

-- ---- What the getters of a day show.
-- Test: kd_trials/src/state.rt

-- the day of the month
abbrev pub day_number : Day → ℕ
day_number (Rotor values) = values.day
day_number (Pin values) = values.day

-- the model that the day is for
abbrev pub day_model : Day → Model
day_model (Rotor values) = values.model
day_model (Pin values) = M209

-- the values of a rotor machine's day; `None` for a Converter's day
abbrev pub rotor_day : Day → Option RotorDay
rotor_day (Rotor values) = Some values
rotor_day (Pin values) = None

-- the values of a Converter's day; `None` for a rotor machine's day
abbrev pub pin_day : Day → Option PinDay
pin_day (Rotor values) = None
pin_day (Pin values) = Some values

-- the wheel for a slot, with its ring and its window letter; `None` if the day's model lacks the slot
abbrev pub day_wheel : Day → ℕ → Option SheetWheel
day_wheel (Rotor values) slot = numbered_item values.wheels slot
day_wheel (Pin values) slot = None

-- the day's letter for a slot's window or for a pin wheel; `None` if the model lacks the slot or the wheel
abbrev pub day_window_letter : Day → ℕ → Option ℕ
day_window_letter (Rotor values) slot = option_map (λ w. w.letter) (numbered_item values.wheels slot)
day_window_letter (Pin values) wheel = numbered_item values.window wheel

-- `letters` are the letters of one of the groups `groups`, in any order.
abbrev pub AreOneOfGroups : List (List ℕ) → List ℕ → Type 0
AreOneOfGroups groups letters = Any (λ group. IsPermutation group letters) groups

-- `letters` are the letters of one of the day's groups, in any order. A Converter's day has no groups.
abbrev pub AreADaysGroup : Day → List ℕ → Type 0
AreADaysGroup (Rotor values) letters = AreOneOfGroups values.groups letters
AreADaysGroup (Pin values) letters = ⊥
