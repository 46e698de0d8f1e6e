-- The code's six pin wheels, `w1` to `w6`, and the key of a Converter with these wheels. No public contract cites this
-- file.
use Rattle.std.specs.Prelude.{◌≡◌, ℕ, List, [], ◌∷◌}
use Rattle.kd_tables.specs.Rings.{ring_of}
use Rattle.kd_pins.specs.PinWheel.{TurnedWheel, IsWheel, letter_shown}
use Rattle.kd_pins.specs.PinWheels.{acting_offset}
use Rattle.kd_drum.specs.Converter.{PinKey}

-- The wheel is the pin wheel with the number `number`, and has `size` places.
pub record IsPinWheel (number size : ℕ) (wheel : TurnedWheel) : Type 0 where
  pub ring : wheel.ring ≡ ring_of number
  pub offset : wheel.offset ≡ acting_offset number
  pub turned : IsWheel size wheel

-- `w1` is pin wheel 1, `w2` is pin wheel 2, and so on.
pub record AreSixWheels (w1 w2 w3 w4 w5 w6 : TurnedWheel) : Type 0 where
  pub first : IsPinWheel 1 26 w1
  pub second : IsPinWheel 2 25 w2
  pub third : IsPinWheel 3 23 w3
  pub fourth : IsPinWheel 4 21 w4
  pub fifth : IsPinWheel 5 19 w5
  pub sixth : IsPinWheel 6 17 w6

-- the key of a Converter with these six wheels; `bars` has, for each bar, the numbers of the wheels at its two lugs
abbrev pub converter_key : TurnedWheel → TurnedWheel → TurnedWheel → TurnedWheel → TurnedWheel → TurnedWheel
    → List (ℕ × ℕ)
    → PinKey
converter_key w1 w2 w3 w4 w5 w6 bars = record {
  pins = w1.pins ∷ w2.pins ∷ w3.pins ∷ w4.pins ∷ w5.pins ∷ w6.pins ∷ [];
  letters =
      letter_shown w1 ∷ letter_shown w2 ∷ letter_shown w3 ∷ letter_shown w4 ∷ letter_shown w5 ∷ letter_shown w6 ∷ [];
  bars = bars;
}
