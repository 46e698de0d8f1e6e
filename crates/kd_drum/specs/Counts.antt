-- For each set of wheels: how many bars have a lug at a wheel of the set. A set is a number below 64, the sum of 1 for
-- wheel 1, 2 for wheel 2, 4 for wheel 3, and so on. For example, 5 is the set of wheels 1 and 3. No public contract
-- cites this file.
use Rattle.std.specs.Prelude.{◌≡◌, ℕ, ◌-◌, ◌/◌, ◌%◌, ◌^◌, ◌<◌, nat_le, nat_eq, Bool, ◌&&◌, ◌||◌, List, length}
use Rattle.std.specs.Prelude.{slice_index}
use Rattle.std.specs.List.{count_by}

-- whether `wheel` is from 1 to 6 and in the set `wheels`
abbrev pub is_in_set : ℕ → ℕ → Bool
is_in_set wheels wheel = (nat_le 1 wheel && nat_le wheel 6) && nat_eq (wheels / 2 ^ (wheel - 1) % 2) 1

-- The number of bars that have a lug at a wheel of the set `wheels`. `bars` has two wheel numbers for each bar.
abbrev pub bars_met_by : List (ℕ × ℕ) → ℕ → ℕ
bars_met_by bars wheels = count_by (λ bar. is_in_set wheels bar.0 || is_in_set wheels bar.1) bars

-- There are 27 bars. For each set of wheels (a number below 64), `counts` has the number of bars that these wheels
-- meet.
pub record AreCounts (bars : List (ℕ × ℕ)) (counts : List ℕ) : Type 0 where
  pub number : length bars ≡ 27
  pub size : length counts ≡ 64
  pub each : (wheels : ℕ) → wheels < 64 → slice_index counts wheels ≡ bars_met_by bars wheels
