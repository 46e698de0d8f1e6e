-- A permutation of the alphabet as the code keeps it: in 32 bytes, called lanes. No public contract cites this file.
use Rattle.std.specs.Prelude.{◌≡◌, ℕ, ◌<◌, List, ◌++◌, length, take, slice_index}
use Rattle.std.specs.List.{range_with_len}

-- the contents of the six spare lanes, 26 to 31: each holds its own number
abbrev pub spare_lanes : List ℕ
spare_lanes = range_with_len 26 6

-- There are 32 lanes. The first 26 hold letters, and each of the six spare lanes after them holds its own number.
pub record AreLanes (lanes : List ℕ) : Type 0 where
  pub size : length lanes ≡ 32
  pub letters : (place : ℕ) → place < 26 → slice_index lanes place < 26
  pub behind : take 26 lanes ++ spare_lanes ≡ lanes
