-- Lines of keys: their patterns, such as `PART _ ______`, and the letters in place of the `_`. Also, which model a day
-- is for.
use Rattle.std.specs.Prelude.{codes, ◌≡◌, ◌⊎◌, ℕ, List, [], ◌∷◌, ◌++◌, length, replicate}
use Rattle.kd_tables.specs.LineWords.{line_of}
use Rattle.kd_state.specs.SheetDay.{Day, RotorDay, PinDay, Rotor, Pin}
use Rattle.kd_form.specs.declared.keys.Keys.{Keys}
use Rattle.kd_form.specs.declared.keys.Keys.TheVariants.{Rotor, Pin}
use Rattle.kd_form.specs.Keys.{AreKeys}
use Rattle.kd_form.specs.Order.{IsKeyLine}

-- ---- What a line of keys is made of. No public contract cites these definitions.

-- `number` bytes that are all `_`; each `_` stands for a letter
abbrev pub blank_places : ℕ → List ℕ
blank_places number = replicate number 95

-- the pattern of a line of keys for a rotor machine with `slots` slots
abbrev pub rotor_pattern : ℕ → List ℕ
rotor_pattern slots = line_of (codes "PART" ∷ blank_places slots ∷ blank_places slots ∷ blank_places 2
    ∷ blank_places 3 ∷ [])

-- the pattern of a line of keys for the Converter M-209
abbrev pub pin_pattern : List ℕ
pin_pattern = line_of (codes "PART" ∷ blank_places 1 ∷ blank_places 6 ∷ [])

-- the pattern of a line of keys for the day's model
abbrev pub key_pattern : Day → List ℕ
key_pattern (Rotor s) = rotor_pattern (length s.wheels)
key_pattern (Pin s) = pin_pattern

-- the letters of `k`, in the order in which a line of keys has them
abbrev pub key_letters : Keys → List ℕ
key_letters (Rotor k) = k.ground_setting ++ (k.message_key ++ (k.fillers ++ k.group))
key_letters (Pin k) = k.chosen ∷ k.external

-- ---- Lines of keys, and the sorts of days.

-- `bytes` are a line of keys for the day's model, and the line's end.
pub record IsAnyKeyLine (s : Day) (bytes : List ℕ) : Type 0 where
  pub keys : Keys
  pub of_the_day : AreKeys s keys
  pub keyed : IsKeyLine keys bytes

-- The day is for a rotor machine with `slots` slots. The number `slots` is 3 or 4.
pub record IsRotorDayWith (s : Day) (slots : ℕ) : Type 0 where
  pub day : RotorDay
  pub is : s ≡ Rotor day
  pub count : slots ≡ length day.wheels
  pub either : (slots ≡ 3) ⊎ (slots ≡ 4)

-- The day is for a Converter M-209.
pub record IsConverterDay (s : Day) : Type 0 where
  pub day : PinDay
  pub is : s ≡ Pin day
