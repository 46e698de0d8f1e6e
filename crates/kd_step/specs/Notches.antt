-- A wheel's notches as a table: for each window letter, whether the wheel is at a notch. No public contract cites this
-- file.
use Rattle.std.specs.Prelude.{◌≡◌, ℕ, ◌+◌, ◌-◌, ◌<◌, Bool, false, List, length, slice_get, slice_index_or, IsSomeAnd}
use Rattle.kd_tables.specs.Tables.{is_notch}
use Rattle.kd_tables.specs.declared.wheel.Wheel.{Wheel}

-- `table` has an entry for each letter: whether `wheel` is at a notch while this letter shows in its window.
pub record IsNotchTable (wheel : Wheel) (table : List Bool) : Type 0 where
  pub size : length table ≡ 26
  pub each : (letter : ℕ) → letter < 26 → slice_index_or table letter false ≡ is_notch wheel letter

-- `table` is the notch table of the wheel at `place`. Places are counted from 0, from the right.
abbrev pub IsNotchTableAt : List Wheel → ℕ → List Bool → Type 0
IsNotchTableAt wheels place table =
    IsSomeAnd (slice_get wheels (length wheels - (place + 1))) (λ wheel. IsNotchTable wheel table)
