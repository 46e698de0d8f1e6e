-- The assignment of all rows: it is one-to-one, and its prices prove that no assignment costs less.
use Rattle.kd_assign.proofs.Prelude.{AreCostsAtMost, FitCosts, IsColumnTakenBy, IsOneToOne, IsSolvedUpTo}
use Rattle.kd_assign.proofs.Prelude.{assignment_cost, cost_at}
use Rattle.kd_assign.proofs.{Places.length-IsColumnTakenBy}
use Rattle.kd_assign.proofs.{Prelude.{get_or_default, get_or_past, ints, price_at, price_sum}}
use Rattle.kd_assign.{proofs.Sums.{sums-one_to_one, fitting_prices_bound_costs}, specs.Cheapest.IsLeastCost}
use Rattle.std.proofs.Common.{All, List, Option, arith, get_or, length, pos, refl, ℕ, ℤ, ◌*◌, ◌-ℤ◌, ◌<◌, ◌≡◌, ◌≤◌}
use Rattle.std.{proofs.lemmas.List.Elements.All-from_get_or, specs.Int.RustNames.unsigned_abs}

-- if `holders`, the row of each column, has row `i` at column `to i` for each row, `to` is one-to-one
pub one_to_one : (holders : List (Option ℕ)) (to : List ℕ) → length to ≡ length holders →
    ((i : ℕ) → i < length to → IsColumnTakenBy holders (get_or to i 0) i) → IsOneToOne to
one_to_one holders to places has = record {
  in_range = λ i d h. omega (
    arith,
    length-IsColumnTakenBy holders (get_or to i 0) i (has i h),
    get_or_default to i d
        0 h,
  );
  distinct = λ i k d before h same. grind (arith, has i, has k, get_or_default to i d 0, get_or_default to k d 0);
}

-- no cost is above 4; this holds also for places past the end of the table
pub cost_at_most : (cost : List (List ℕ)) → AreCostsAtMost 4 cost → (i j : ℕ) → cost_at cost i j ≤ 4
cost_at_most cost costs i j = grind (arith, costs, get_or_past)

-- the prices of a finished assignment fit and add up to its cost, so no assignment costs less
module _ {n next : ℕ} {cost : List (List ℕ)} {prices : List ℤ} {holders : List (Option ℕ)} (row : List ℤ) (to : List ℕ)
    (few : next ≤ n) (solved : IsSolvedUpTo n cost prices holders next) (lines : length cost ≡ n)
    (columns : length prices ≡ n) (rows : length row ≡ n) (places : length to ≡ n)
    (has : (i : ℕ) → i < n → IsColumnTakenBy holders (get_or to i 0) i)
    (row_is : (i : ℕ) → i < n →
    price_at row i ≡ (pos (cost_at cost i (get_or to i 0)) -ℤ price_at prices (get_or to i 0))) where
  pub fits : FitCosts cost row prices
  fits i j h g =
      let least = solved.cheapest i (get_or to i 0) (has i (omega arith)) j (omega arith) in
      omega (arith, ints, row_is i (omega arith))

  pub price_sum_is : IsOneToOne to → price_sum row prices ≡ pos (assignment_cost cost to)
  price_sum_is once =
      sums-one_to_one (λ x y. x ≡ y) refl (λ r s c t k l h g. omega (arith, ints)) prices cost row to
      (omega arith) (omega arith) (omega arith) (λ i h. omega (arith, ints, row_is i (omega arith))) once

  pub rows_at_most : AreCostsAtMost 4 cost → IsOneToOne to → All (λ price. unsigned_abs price ≤ 4 * n) row
  rows_at_most costs once = All-from_get_or (λ price. unsigned_abs price ≤ 4 * n) row (pos 0) (λ i h.
      let j = get_or to i 0 in
      let z = solved.zero.0 in
      let is = row_is i (omega arith) in
      let high = solved.high j (omega (arith, once.in_range i 0 (omega arith))) in
      let least = solved.cheapest i j (has i (omega arith)) z solved.zero.1 in
      let few = cost_at_most cost costs i z in
      grind (arith, ints, solved.zero.2))

  pub columns_at_most : All (λ price. unsigned_abs price ≤ 4 * n) prices
  columns_at_most = All-from_get_or (λ price. unsigned_abs price ≤ 4 * n) prices (pos 0) (λ j h.
      grind (arith, ints, solved.low j (omega arith), solved.high j (omega arith)))

  pub is_least : {total : ℕ} → IsOneToOne to → total ≡ assignment_cost cost to → IsLeastCost cost total
  is_least once is other same one =
      let bound = fitting_prices_bound_costs cost row prices other (omega arith) (omega arith) (omega arith) fits one in
      grind (arith, price_sum_is once)
