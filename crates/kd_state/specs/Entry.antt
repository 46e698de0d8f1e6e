-- How the values of a day in the code (`Entry`) become the values in contracts (`Day`).
use Rattle.kd_state.specs.declared.sheet_day.rotor_entry.RotorEntry.{RotorEntry}
use Rattle.kd_state.specs.declared.sheet_day.pin_entry.PinEntry.{PinEntry}
use Rattle.kd_state.specs.declared.sheet_day.entry.Entry.{Entry}
use Rattle.kd_state.specs.declared.sheet_day.entry.Entry.TheVariants.{Rotor, Pin}
use Rattle.kd_state.specs.SheetDay.{RotorDay, PinDay, Day, Rotor, Pin}

-- the values of a rotor machine's day
abbrev pub rotor_values : RotorEntry → RotorDay
rotor_values e = record {
  day = e.day;
  model = e.model;
  reflector = e.reflector;
  wheels = e.wheels;
  pairs = e.pairs.items;
  groups = e.groups.items;
}

-- the values of a Converter's day
abbrev pub pin_values : PinEntry → PinDay
pin_values e = record { day = e.day; rows = e.rows; pins = e.pins; window = e.window; list = e.list }

-- the values of a day of any model. Left of `=`, `Rotor` and `Pin` are variants of `Entry`; right of `=`, they are
-- variants of `Day`.
abbrev pub values_of : Entry → Day
values_of (Rotor e) = Rotor (rotor_values e)
values_of (Pin e) = Pin (pin_values e)
