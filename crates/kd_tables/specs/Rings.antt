-- The letters of the Converter M-209's six pin wheels.
-- Source: War Department TM 11-380.
-- Code: each wheel has a function of its own, from `ring1` to `ring6`.
-- Test: pin_wheels_have_their_own_letters
use Rattle.std.specs.Prelude.{codes, ◌≡◌, ℕ, ◌<◌, ◌==◌, nat_eq, List, [], ◌∷◌, length, slice_index_or, All, Option}
use Rattle.std.specs.List.{position, IsDistinct}
use Rattle.kd_tables.specs.Tables.{letters_of}

-- The letters of each pin wheel, in order. Wheels are counted from 1, so the first entry is empty.
abbrev pub ring_texts : List (List ℕ)
ring_texts =
    [] ∷ codes "ABCDEFGHIJKLMNOPQRSTUVWXYZ" ∷ codes "ABCDEFGHIJKLMNOPQRSTUVXYZ" ∷ codes "ABCDEFGHIJKLMNOPQRSTUVX"
    ∷ codes "ABCDEFGHIJKLMNOPQRSTU" ∷ codes "ABCDEFGHIJKLMNOPQRS" ∷ codes "ABCDEFGHIJKLMNOPQ" ∷ []

-- the letters of pin wheel `number`, from 1 to 6; for any other number, the empty list
unfoldable pub ring_of : ℕ → List ℕ
ring_of number = letters_of (slice_index_or ring_texts number [])

-- `letters` can be the letters of a pin wheel: `size` different numbers below 26.
pub record IsRing (size : ℕ) (letters : List ℕ) : Type 0 where
  pub full : length letters ≡ size
  pub within : All (λ letter. letter < 26) letters
  pub differ : IsDistinct nat_eq letters

-- the place of a letter among a pin wheel's letters, counted from 0; `None` if the wheel lacks the letter
abbrev pub place_on : List ℕ → ℕ → Option ℕ
place_on letters letter = position (λ other. other == letter) letters
