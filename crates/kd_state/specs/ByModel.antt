-- Definitions with three cases: a rotor machine with a rotor machine's day, a Converter with a Converter's day, or a
-- machine and a day of different sorts. For example, `f = by_model u r p` defines `f machine day` for each machine and
-- day.
use Rattle.kd_state.specs.declared.machine.rotor_parts.RotorParts.{RotorParts}
use Rattle.kd_state.specs.declared.machine.pin_parts.PinParts.{PinParts}
use Rattle.kd_state.specs.declared.machine.parts.Parts.{Parts}
use Rattle.kd_state.specs.declared.machine.parts.Parts.TheVariants.{Rotor, Pin}
use Rattle.kd_state.specs.SheetDay.{RotorDay, PinDay, Day, Rotor, Pin}

-- One of three values:
-- - `rotor machine day`: a rotor machine with a rotor machine's day.
-- - `pin machine day`: a Converter with a Converter's day.
-- - `unlike`: machine and day are of different sorts.
abbrev pub by_model {ℓ} : {X : Type ℓ} → X → (RotorParts → RotorDay → X) → (PinParts → PinDay → X) → Parts → Day → X
by_model unlike rotor pin (Rotor machine) (Rotor day) = rotor machine day
by_model unlike rotor pin (Pin machine) (Pin day) = pin machine day
by_model unlike rotor pin _ _ = unlike
