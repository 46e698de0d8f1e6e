-- The first short group of a body: this group doesn't have five letters, and more letters follow. `desk send` writes
-- groups of five letters.
-- Test: tests/cases/curator-messages.toml
use Rattle.std.specs.Prelude.{◌≡◌, ◌≢◌, ℕ, ◌+◌, ◌<◌, ◌/◌, ◌%◌, List, length, slice_index, take, Option, None, MatchOption}
use Rattle.kd_lost.specs.Lost.{received_letter}
use Rattle.kd_lost.specs.ShortLine.{letters_on}

-- A short group ends at `place`. There is no letter at `place`, but letters follow. The number of letters before
-- `place` isn't a multiple of five.
pub record EndsShortGroup (body : List ℕ) (place : ℕ) : Type 0 where
  pub inside : place < length body
  pub ends : received_letter (slice_index body place) ≡ None
  pub before_others : letters_on (take place body) < letters_on body
  pub short : letters_on (take place body) % 5 ≢ 0

-- The first short group of the body ends at `place`.
pub record EndsFirstShortGroup (body : List ℕ) (place : ℕ) : Type 0 where
  pub ends : EndsShortGroup body place
  pub first : (earlier : ℕ) → earlier < place → ¬ (EndsShortGroup body earlier)

-- `group` is the number of the first short group of the body, counted from 1; `None` if there is none.
abbrev pub IsFirstShortGroup : List ℕ → Option ℕ → Type 0
IsFirstShortGroup body group =
    MatchOption group ((place : ℕ) → ¬ (EndsShortGroup body place))
    (λ number. (place : ℕ) × EndsFirstShortGroup body place × (number ≡ letters_on (take place body) / 5 + 1))
