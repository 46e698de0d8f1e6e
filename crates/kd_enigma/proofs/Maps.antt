-- Permutations as they are kept in 32 lanes.
use Rattle.std.proofs.Common.{◌≡◌, ℕ, ◌-◌, ◌<◌, ◌≤◌, List, ◌++◌, length, take, map, get_or, slice_index, w8, inl, inr}
use Rattle.std.proofs.Common.{refl, sym, ap, ◌∙◌, arith, length-append, rules}
use Rattle.kd_enigma.{proofs.Ways.product-at, proofs.Ways.product-size, specs.Map.AreLanes, specs.Map.spare_lanes}
use Rattle.kd_tables.specs.Permutation.{alphabet, followed_by}
use Rattle.std.proofs.lemmas.{Bool.cases_lt, List.FromFn.get_or-map-range_with_len, List.FromFn.get_or-range_with_len}
use Rattle.std.proofs.lemmas.List.{ext_get_or, get_or-take, get_or_append_left, get_or-append_right, length-take-le}
use Rattle.std.proofs.lemmas.Simd.{swz_l, SwzOk, SwzOk-from_below, Each1-from_get_or, length-swz_l, get_or-swz_l_below}

-- each lane after the 26 letters holds its own number
spare_at : (lanes : List ℕ) → length lanes ≡ 32 → (k : ℕ) → 26 ≤ k → k < 32
    → get_or (take 26 lanes ++ spare_lanes) k 0 ≡ k
spare_at lanes size k low lt =
    get_or-append_right (take 26 lanes) spare_lanes 26 k 0 (length-take-le 26 lanes (omega arith)) low
    ∙ get_or-range_with_len 26 6 (k - 26) 0 (omega arith) ∙ omega arith

-- 26 lanes that hold letters, and then six that hold their own numbers, satisfy `AreLanes`.
pub lanes_of : (lanes : List ℕ) → length lanes ≡ 32 → ((k : ℕ) → k < 26 → slice_index lanes k < 26)
    → ((k : ℕ) → 26 ≤ k → k < 32 → slice_index lanes k ≡ k) → AreLanes lanes
lanes_of lanes size letters still =
    let front : length (take 26 lanes) ≡ 26 = length-take-le 26 lanes (omega arith) in
    let all : length (take 26 lanes ++ spare_lanes) ≡ 32 = omega (arith, length-append (take 26 lanes) spare_lanes) in
    record {
      size = size;
      letters = letters;
      behind = ext_get_or 0 (take 26 lanes ++ spare_lanes) lanes (omega arith) (λ k lt. elim (cases_lt k 26) [
        | inl low ↦ get_or_append_left (take 26 lanes) spare_lanes 0 k (omega arith) ∙ get_or-take 26 lanes k 0 low
        | inr high ↦ spare_at lanes size k high (omega arith) ∙ sym (still k high (omega arith))
      ]);
    }

pub told_front : (lanes table : List ℕ) → length lanes ≡ 32 → length table ≡ 26
    → ((k : ℕ) → k < 26 → slice_index lanes k ≡ slice_index table k) → take 26 lanes ≡ table
told_front lanes table size front each =
    let long = length-take-le 26 lanes (omega arith) in
    ext_get_or 0 (take 26 lanes) table (long ∙ sym front)
    (λ k lt. get_or-take 26 lanes k 0 (omega arith) ∙ each k (omega arith))

pub lane_behind : (lanes : List ℕ) → AreLanes lanes → (k : ℕ) → 26 ≤ k → k < 32 → slice_index lanes k ≡ k
lane_behind lanes h k low lt = ap (λ l. get_or l k 0) (sym h.behind) ∙ spare_at lanes h.size k low lt

-- Each lane holds the number of a lane.
pub lane_within : (lanes : List ℕ) → AreLanes lanes → (k : ℕ) → k < 32 → slice_index lanes k < 32
lane_within lanes h k lt =
    elim (cases_lt k 26) [
      | inl low ↦ omega (arith, h.letters k low)
      | inr high ↦ omega (arith, lane_behind lanes h k high lt)
    ]

-- ---- one permutation after the other

pub followed_by_is_safe : (lanes : List ℕ) → AreLanes lanes → SwzOk w8 32 32 0 lanes
followed_by_is_safe lanes h =
    SwzOk-from_below w8 32 1 32 0 lanes refl (omega (arith, h.size))
    (Each1-from_get_or (λ j. j < 32) lanes 0 (λ k lt. lane_within lanes h k (omega (arith, h.size))))

lane-at : (first second : List ℕ) → AreLanes first → (k : ℕ) → k < 32
    → slice_index (swz_l w8 32 second 0 first) k ≡ slice_index second (slice_index first k)
lane-at first second h k lt = grind (arith, get_or-swz_l_below, lane_within)

pub followed_by_has_lanes : (first second : List ℕ) → AreLanes first → AreLanes second
    → AreLanes (swz_l w8 32 second 0 first)
followed_by_has_lanes first second h g = search (rules, lanes_of, length-swz_l, lane-at, lane_behind)

pub followed_by_is : (first second : List ℕ) → AreLanes first → AreLanes second
    → take 26 (swz_l w8 32 second 0 first) ≡ followed_by (take 26 first) (take 26 second)
followed_by_is first second h g =
    let front : length (take 26 first) ≡ 26 = length-take-le 26 first (omega (arith, h.size)) in
    told_front (swz_l w8 32 second 0 first) (followed_by (take 26 first) (take 26 second))
    (grind (arith, length-swz_l, h.size)) (product-size _ _ ∙ front)
    (λ k lt. lane-at first second h k (omega arith) ∙ sym (product-at (take 26 first) (take 26 second) k front lt
    ∙ ap (slice_index (take 26 second)) (get_or-take 26 first k 0 lt)
    ∙ get_or-take 26 second (slice_index first k) 0 (h.letters k lt)))

-- ---- a permutation for each letter in a window

pub read_at : {X : Type 0} (f : ℕ → X) (maps : List X) (window place : ℕ) (d : X) → maps ≡ map f alphabet
    → place ≡ window → window < 26 → get_or maps place d ≡ f window
read_at f maps window place d is here lt = grind (arith, get_or-map-range_with_len)
