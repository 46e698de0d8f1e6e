-- The keys that an order gives for one part of its form, and the words of the line with these keys.
-- Test: tests/cases/desk-messages.toml
use Rattle.std.specs.Prelude.{codes, ℕ, ◌<◌, List, [], ◌∷◌, length}
use Rattle.kd_tables.specs.Text.{letters_text}
use Rattle.kd_state.specs.Machine.{AreLetters}
use Rattle.kd_state.specs.SheetDay.{Day, Rotor, Pin}
use Rattle.kd_form.specs.declared.keys.Keys.{Keys}
use Rattle.kd_form.specs.declared.keys.Keys.TheVariants.{Rotor, Pin}
use Rattle.kd_form.specs.declared.keys.RotorKeys.{RotorKeys}
use Rattle.kd_form.specs.declared.keys.PinKeys.{PinKeys}

-- the words of a line of keys: PART, and then the letters of its keys
abbrev pub key_words : Keys → List (List ℕ)
key_words (Rotor k) =
    codes "PART" ∷ letters_text k.ground_setting ∷ letters_text k.message_key ∷ letters_text k.fillers
    ∷ letters_text k.group ∷ []
key_words (Pin k) = codes "PART" ∷ letters_text (k.chosen ∷ []) ∷ letters_text k.external ∷ []

-- The ground setting and the message key have a letter for each slot. There are two fillers, and a group of three
-- letters.
pub record AreRotorKeys (slots : ℕ) (k : RotorKeys) : Type 0 where
  pub ground_setting : AreLetters slots k.ground_setting
  pub message_key : AreLetters slots k.message_key
  pub fillers : AreLetters 2 k.fillers
  pub group : AreLetters 3 k.group

-- The keys have a chosen letter and six external letters.
pub record ArePinKeys (k : PinKeys) : Type 0 where
  pub chosen : k.chosen < 26
  pub external : AreLetters 6 k.external

-- The keys are for the day's model.
abbrev pub AreKeys : Day → Keys → Type 0
AreKeys (Rotor s) (Rotor k) = AreRotorKeys (length s.wheels) k
AreKeys (Pin s) (Pin k) = ArePinKeys k
AreKeys (Rotor s) (Pin k) = ⊥
AreKeys (Pin s) (Rotor k) = ⊥
