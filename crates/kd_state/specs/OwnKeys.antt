-- The keys of machines and of days, and machines turned to other letters.
-- Code: one type, `Engine`, serves all models.
use Rattle.std.specs.Prelude.{◌≡◌, ℕ, List, map}
use Rattle.kd_tables.specs.Permutation.{exchange}
use Rattle.kd_tables.specs.Places.{reading_of}
use Rattle.kd_pins.specs.PinWheels.{pins_of}
use Rattle.kd_state.specs.declared.machine.parts.Parts.{Parts}
use Rattle.kd_state.specs.declared.machine.parts.Parts.TheVariants.{Rotor, Pin}
use Rattle.kd_state.specs.EngineKey.{EngineKey, Rotor, Pin}
use Rattle.kd_state.specs.SeatedWheels.{key_of_wheels}
use Rattle.kd_state.specs.SheetDay.{Day, Rotor, Pin}
use Rattle.kd_state.specs.TwoCiphers.{key_of_rotor_parts, key_of_pin_day, window_of}

-- the key to which a machine is set. Left of `=`, `Rotor` and `Pin` are variants of `Parts`; right of `=`, they are
-- variants of `EngineKey`.
abbrev pub physical_key : Parts → EngineKey
physical_key (Rotor machine) = Rotor (key_of_rotor_parts machine)
physical_key (Pin machine) = Pin (record {
  pins = pins_of machine.pins;
  letters = machine.letters;
  bars = map reading_of machine.bars;
})

-- the key that a day asks for, with the day's letters in the windows or on the pin wheels
abbrev pub sheet_key : Day → EngineKey
sheet_key (Rotor day) = Rotor (key_of_wheels day.wheels day.reflector (exchange day.pairs))
sheet_key (Pin day) = Pin (key_of_pin_day day)

-- Machine `turned` is machine `machine`, turned until it shows the letters `window`. Wheels in the box may have other
-- window letters than before.
abbrev pub IsTurnedTo : Parts → List ℕ → Parts → Type 0
IsTurnedTo (Rotor machine) window (Rotor turned) =
    (turned ≡ record machine { letters = turned.letters }) × (window_of (Rotor turned) ≡ window)
IsTurnedTo (Pin machine) window (Pin turned) = turned ≡ record machine { letters = window }
IsTurnedTo _ _ _ = ⊥
