-- The keys of engines, and the cipher of an engine with a key.
-- Code: one type, `Engine`, serves all models.
use Rattle.std.specs.Prelude.{ℕ, List, length}
use Rattle.kd_enigma.specs.Cipher.{RotorKey, enigma_cipher, key_after, key_turned}
use Rattle.kd_drum.specs.Converter.{PinKey, converter_cipher, pin_key_after, pin_key_turned}
use Rattle.kd_state.specs.Machine.{AreLetters, AreOnWheels}

-- An engine's key: a rotor machine's or a Converter's.
pub data EngineKey : Type 0 where
  Rotor : RotorKey → EngineKey
  Pin : PinKey → EngineKey

-- the ciphertext that an engine with the given key makes of `text`, whose letters are below 26
abbrev pub cipher : EngineKey → List ℕ → List ℕ
cipher (Rotor key) text = enigma_cipher key text
cipher (Pin key) text = converter_cipher key text

-- the key of an engine after it has enciphered a number of letters
abbrev pub engine_key_after : EngineKey → ℕ → EngineKey
engine_key_after (Rotor key) n = Rotor (key_after key n)
engine_key_after (Pin key) n = Pin (pin_key_after key n)

-- the key after the wheels are turned until they show the letters `window`
abbrev pub key_with_window : EngineKey → List ℕ → EngineKey
key_with_window (Rotor key) window = Rotor (key_turned key window)
key_with_window (Pin key) window = Pin (pin_key_turned key window)

-- A machine with the given key can show the letters `window`. On a rotor machine, there is one letter for each slot. On
-- a Converter, there is one letter for each pin wheel, and each letter is on its wheel.
abbrev pub IsWindow : EngineKey → List ℕ → Type 0
IsWindow (Rotor key) window = AreLetters (length key.wheels) window
IsWindow (Pin key) window = AreOnWheels window
