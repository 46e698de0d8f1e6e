-- The difference of two numbers from -128 to 4, such as a price and a cost, is exact in 16 bits. The sum of a level
-- and a cost is exact, too.
use Rattle.kd_assign.proofs.Prelude.{AreWithinCeilings, ints, price_at, to_z-of_z}
use Rattle.std.proofs.Common.{List, SFits, arith, of_z, pos, rules, to_z, w16, ℕ, ℤ, ◌+ℤ◌, ◌-ℤ◌, ◌<◌, ◌≡◌, ◌≤ℤ◌, ◌≤◌}
use Rattle.std.specs.Prelude.{neg_ℤ}

-- The number is from -128 to 4.
abbrev pub IsSmall : ℤ → Type 0
IsSmall x = (neg_ℤ (pos 128) ≤ℤ x) × (x ≤ℤ pos 4)

pub IsSmall-cost : (cost : ℕ) → cost ≤ 4 → IsSmall (pos cost)
IsSmall-cost cost few = (omega (arith, ints), omega (arith, ints))

pub IsSmall-price : {n : ℕ} {prices ceilings : List ℤ} (j : ℕ) → AreWithinCeilings n prices ceilings → j < n
    → IsSmall (price_at prices j)
IsSmall-price j close inside =
    let between = close.between j inside in
    let high = close.high j inside in (close.low j inside, omega (arith, ints))

pub IsSmall-ceiling : {n : ℕ} {prices ceilings : List ℤ} (j : ℕ) → AreWithinCeilings n prices ceilings → j < n
    → IsSmall (price_at ceilings j)
IsSmall-ceiling j close inside =
    let low = close.low j inside in
    let between = close.between j inside in (omega (arith, ints), close.high j inside)

SFits-small : (x : ℤ) → IsSmall x → SFits w16 x
SFits-small x small = first_of (search rules, grind (arith, ints))

module _ (x y : ℤ) (small : IsSmall x) (small' : IsSmall y) where
  SFits-exact : SFits w16 (x -ℤ y)
  SFits-exact = first_of (search rules, grind (arith, ints))

  pub SFits-difference : SFits w16 (to_z w16 (of_z w16 x) -ℤ to_z w16 (of_z w16 y))
  SFits-difference = rw (to_z-of_z w16 x (SFits-small x small), to_z-of_z w16 y (SFits-small y small')) SFits-exact

  pub difference-exact : to_z w16 (of_z w16 (to_z w16 (of_z w16 x) -ℤ to_z w16 (of_z w16 y))) ≡ (x -ℤ y)
  difference-exact =
      rw (to_z-of_z w16 x (SFits-small x small), to_z-of_z w16 y (SFits-small y small')) (to_z-of_z w16 (x -ℤ y)
      SFits-exact)

-- The sum of a level from -256 to 4 and a cost of at most 4 is exact in 16 bits.
pub sum-exact : (level : ℤ) (cost : ℕ) → SFits w16 level → neg_ℤ (pos 256) ≤ℤ level → level ≤ℤ pos 4 → cost ≤ 4
    → to_z w16 (of_z w16 (to_z w16 (of_z w16 level) +ℤ to_z w16 (of_z w16 (pos cost))))
    ≡ (to_z w16 (of_z w16 level) +ℤ pos cost)
sum-exact level cost fits low high few =
    let fits_sum : SFits w16 (level +ℤ pos cost) = first_of (search rules, grind (arith, ints)) in
    rw (to_z-of_z w16 level fits, to_z-of_z w16 (pos cost) (SFits-small (pos cost) (IsSmall-cost cost few)))
    (to_z-of_z w16 (level +ℤ pos cost) fits_sum)
