-- The key to which an engine is set. No public contract cites this file.
use Rattle.std.specs.Prelude.{◌≡◌, length}
use Rattle.kd_state.specs.declared.engine.Mechanism.{Mechanism}
use Rattle.kd_state.specs.declared.engine.Mechanism.TheVariants.{ThreeWheels, FourWheels, Drum}
use Rattle.kd_state.specs.EngineKey.{EngineKey, Rotor, Pin}

-- the key of the Enigma or of the Converter in the engine
abbrev pub mechanism_key : Mechanism → EngineKey
mechanism_key (ThreeWheels key) = Rotor key
mechanism_key (FourWheels key) = Rotor key
mechanism_key (Drum key) = Pin key

-- An engine `ThreeWheels` has a key with three wheels, and an engine `FourWheels` has a key with four.
abbrev pub HasKeyWheelCount : Mechanism → Type 0
HasKeyWheelCount (ThreeWheels key) = length key.wheels ≡ 3
HasKeyWheelCount (FourWheels key) = length key.wheels ≡ 4
HasKeyWheelCount (Drum key) = Unit {0}
