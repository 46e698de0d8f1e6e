-- What holds once a tree gains a column, and once an assignment gains a row.
use Rattle.std.proofs.Common.{◌≡◌, ◌≢◌, ℕ, ◌+◌, ◌<◌, ◌≤◌, List, [], length, get_or, set, All, Bool, true, false, Option}
use Rattle.std.proofs.Common.{Some, None, is_some, ◌⊎◌, inl, inr, ℤ, pos, ◌-ℤ◌, ◌≤ℤ◌, refl, sym, ◌∙◌, arith}
use Rattle.{kd_assign.proofs.AllRows.cost_at_most, std.specs.Int.int_min}
use Rattle.kd_assign.proofs.Prelude.{cases_Bool, cases_eq, clamps, false≢true, get_or-set_other, get_or-set_same, ints}
use Rattle.kd_assign.proofs.Prelude.{length-set, none-some, same_Some, AreCostsAtMost, IsColumnTakenBy}
use Rattle.kd_assign.proofs.Prelude.{IsCheapestColumn, IsColumnFree, AreCompared, IsNearest, IsRowAssigned}
use Rattle.kd_assign.proofs.Prelude.{IsSolvedUpTo, cost_at, has_column, price_at, room_at}
use Rattle.kd_assign.proofs.GrownTree.{IsAssignmentWithout, IsGrownTree}
use Rattle.kd_assign.proofs.Places.{count-set, count_at_most, free_column, length-IsColumnTakenBy, get_or-set-cases}

module _ {n root : ℕ} {cost : List (List ℕ)} {prices ceilings : List ℤ} {holders : List (Option ℕ)}
    {reached : List Bool} {near : List ℕ} {plans : List (List (Option ℕ))}
    (solved : IsSolvedUpTo n cost prices holders root)
    (grown : IsGrownTree n cost prices holders root reached ceilings near plans) where
  -- a free column is outside the tree
  outside : (j : ℕ) → IsColumnFree holders j → has_column reached j ≡ false
  outside j free = grind (arith, cases_Bool, grown.taken j)

  -- some column is outside the tree
  pub outside-exists : root < n → (j : ℕ) × (j < n) × (has_column reached j ≡ false)
  outside-exists few = grind (arith, free_column, outside)

  module _ {end : ℕ} (nearest : IsNearest n prices reached ceilings end) where
    -- the row that takes column `end`, and the plan in which this row has no column
    abbrev from : ℕ
    from = get_or near end 0

    abbrev plan : List (Option ℕ)
    plan = get_or plans from []

    plan_is : IsAssignmentWithout n cost prices holders root reached ceilings plan from
    plan_is = grown.plan end nearest.within nearest.outside

    -- the columns of the tree once `end` has joined, and the plan in which `from` has `end`
    abbrev reached' : List Bool
    reached' = set reached end true

    abbrev plan' : List (Option ℕ)
    plan' = set plan end (Some from)

    has_end : end < length plan
    has_end = omega (arith, plan_is.places, nearest.within)

    plan-cases : {w : Option ℕ} (j : ℕ) → get_or plan' j None ≡ w →
        ((j ≡ end) × (Some from ≡ w)) ⊎ ((j ≢ end) × (get_or plan j None ≡ w))
    plan-cases j h = get_or-set-cases plan end (Some from) _ j has_end h

    rows_still : (i j : ℕ) → IsColumnTakenBy plan' j i → i < n
    rows_still i j h = grind (arith, plan-cases j h, plan_is.out_in_range, plan_is.rows, same_Some)

    -- each row from 0 to `root` that doesn't hold `end` in `holders` has a column in `plan'`
    seated_still : (i : ℕ) → i ≤ root → (IsColumnTakenBy holders end i → ⊥) → IsRowAssigned plan' i
    seated_still i few other = elim (cases_eq i from) [
      | inl same ↦ (end, rw same (get_or-set_same plan end (Some from) None has_end))
      | inr no_other ↦
          let seat = plan_is.seated i few no_other in
          let elsewhere = λ (e : seat.0 ≡ end). other (sym (plan_is.same end nearest.outside) ∙ rw e at seat.1) in
          (seat.0, get_or-set_other plan end seat.0 (Some from) None elsewhere ∙ seat.1)
    ]

    -- column `end` is taken by `holder`, which joins the tree
    module _ {holder : ℕ} (held : IsColumnTakenBy holders end holder) {level : ℤ}
        (level_is : level ≡ (price_at ceilings end -ℤ pos (cost_at cost holder end)))
        {near' : List ℕ} {ceilings' : List ℤ}
        (compared : AreCompared n cost (set reached end true) holder level near ceilings near' ceilings') where
      end_joins : has_column reached' end ≡ true
      end_joins = get_or-set_same reached end true false (omega (arith, grown.places, nearest.within))

      -- a column outside the new tree was outside the old one; a column in the new tree was in the old one or
      -- is `end`
      outside_before : (j : ℕ) → has_column reached' j ≡ false → (j ≢ end) × (has_column reached j ≡ false)
      outside_before j h = grind (arith, end_joins, cases_eq, get_or-set_other)

      inside_before : (j : ℕ) → j ≢ end → has_column reached' j ≡ true → has_column reached j ≡ true
      inside_before j other h = grind (arith, get_or-set_other)

      -- the comparison leaves the ceilings of the new tree's columns as they were
      ceiling_stays : (j : ℕ) → j < n → has_column reached' j ≡ true → price_at ceilings' j ≡ price_at ceilings j
      ceiling_stays j lt h = grind (arith, (compared.at j lt).one)

      cheapest_still : (i j : ℕ) → price_at ceilings' j ≡ price_at ceilings j → IsCheapestColumn n cost ceilings i j →
          IsCheapestColumn n cost ceilings' i j
      cheapest_still i j e cheapest k lt = omega (arith, ints, cheapest k lt, (compared.at k lt).least)

      -- no column of the new tree has more room (ceiling less price) than `end`
      no_further : (j : ℕ) → j < n → has_column reached' j ≡ true
          → room_at ceilings prices j ≤ℤ room_at ceilings prices end
      no_further j lt h = elim (cases_eq j end) [
        | inl same ↦ rw same (omega (arith, ints))
        | inr other ↦ grown.ordered j end lt nearest.within (inside_before j other h) nearest.outside
      ]

      -- `end` is the cheapest column for `holder` at the new ceilings
      holder_stays : IsCheapestColumn n cost ceilings' holder end
      holder_stays k lt =
          let same = ceiling_stays end nearest.within end_joins in
          let before = solved.cheapest holder end held k lt in
          let now = compared.at k lt in
          elim (cases_Bool (has_column reached' k)) [
            | inl inside ↦ omega (arith, ints, now.least, no_further k lt inside)
            | inr out ↦ omega (arith, ints, now.here out)
          ]

      -- an assignment without `out` for the old tree is one for the new tree
      plan_still : {old : List (Option ℕ)} {out : ℕ}
          → IsAssignmentWithout n cost prices holders root reached ceilings old out →
          IsAssignmentWithout n cost prices holders root reached' ceilings' old out
      plan_still plan = record {
        places = plan.places;
        out_in_range = plan.out_in_range;
        rows = plan.rows;
        seated = plan.seated;
        cheapest = λ i j lt h e. elim (cases_eq j end) [
          | inl here ↦
              let is = same_Some holder i (sym held ∙ sym (plan.same end nearest.outside) ∙ rw here at e) in
              rw (← is, here) holder_stays
          | inr other ↦ cheapest_still i j (ceiling_stays j lt h) (plan.cheapest i j lt (inside_before j other h) e)
        ];
        same = λ j h. plan.same j (outside_before j h).1;
        taken = plan.taken;
      }

      -- `plan'` is an assignment without `holder` for the new tree
      plan_moved : IsAssignmentWithout n cost prices holders root reached' ceilings' plan' holder
      plan_moved = record {
        places = length-set plan end (Some from) ∙ plan_is.places;
        out_in_range = solved.rows holder end held;
        rows = rows_still;
        seated = λ i few other. seated_still i few (λ h. other (same_Some i holder (sym h ∙ held)));
        cheapest = grind (arith, plan-cases, same_Some, cheapest_still, ceiling_stays, end_joins, inside_before);
        same = λ j h. grind (arith, outside_before j h, get_or-set_other, plan_is.same j);
        taken = λ j. grind (arith, plan-cases j refl, plan_is.taken, held);
      }

      -- the new tree satisfies `IsGrownTree`
      pub IsGrownTree-with_end : IsGrownTree n cost prices holders root reached' ceilings' near'
          (set plans holder plan')
      IsGrownTree-with_end = record {
        places = length-set reached end true ∙ grown.places;
        plan_places = length-set plans holder plan' ∙ grown.plan_places;
        close = record {
          low = grown.close.low;
          between = λ j lt. elim (compared.at j lt).one [
            | inl was ↦ omega (arith, ints, grown.close.between j lt, was.1)
            | inr is ↦
                let here = grown.close.between end nearest.within in
                omega (arith, ints, solved.cheapest holder end held j lt, is.2)
          ];
          high = λ j lt. omega (arith, ints, (compared.at j lt).least, grown.close.high j lt);
        };
        taken = λ j h. grind (arith, cases_eq, held, grown.taken j, inside_before j);
        ordered = λ j k lt lt' h g.
            let near = nearest.least k lt' (outside_before k g).1 in
            let stays = ceiling_stays j lt h in
            elim (compared.at k lt').one [
              | inl was ↦ omega (arith, ints, was.1, no_further j lt h)
              | inr is ↦ omega (arith, ints, solved.cheapest holder end held k lt', is.2, no_further j lt h)
            ];
        cheapest = λ j lt h. elim (compared.at j lt).one [
          | inl was ↦ rw was.0 (cheapest_still (get_or near j 0) j was.1 (grown.cheapest j lt (outside_before j h).1))
          | inr is ↦
              let stays = ceiling_stays end nearest.within end_joins in
              rw is.1 (λ k lt'. omega (arith, ints, holder_stays k lt', stays, is.2))
        ];
        plan = λ j lt h.
            let there : holder < length plans = omega (arith, grown.plan_places, solved.rows holder end held) in
            let made = rw (sym (get_or-set_same plans holder plan' [] there)) at plan_moved in
            elim (compared.at j lt).one [
              | inl was ↦ rw was.0 (elim (cases_eq (get_or near j 0) holder) [
                | inl same ↦ rw same made
                | inr other ↦ rw (get_or-set_other plans holder (get_or near j 0) plan' [] other)
                    (plan_still (grown.plan j lt (outside_before j h).1))
              ])
              | inr is ↦ rw is.1 made
            ];
      }

    -- column `end` is free, and `by` is its room; each price that is above its ceiling less `by` is lowered to this
    -- difference
    module _ (free : IsColumnFree holders end) {by : ℤ} (by_is : by ≡ room_at ceilings prices end) (prices' : List ℤ)
        (lowered : (j : ℕ) → j < n → price_at prices' j ≡ int_min (price_at prices j) (price_at ceilings j -ℤ by)) where
      -- the prices of columns outside the tree stay as they were
      price_stays : (j : ℕ) → j < n → has_column reached j ≡ false → price_at prices' j ≡ price_at prices j
      price_stays j lt h = omega (arith, ints, clamps, nearest.least j lt h, lowered j lt)

      -- in `plan'`, each row from 0 to `root` has its cheapest column at the new prices
      pub IsSolvedUpTo-with_root : IsSolvedUpTo n cost prices' plan' (root + 1)
      IsSolvedUpTo-with_root = record {
        places = length-set plan end (Some from) ∙ plan_is.places;
        rows = rows_still;
        seated = λ i lt. seated_still i (omega arith) (λ h. none-some i (sym free ∙ h));
        count =
            let size : length plan ≡ length holders = omega (arith, plan_is.places, solved.places) in
            let more = count_at_most is_some is_some None None plan holders size (λ j h. sym (plan_is.taken j) ∙ h) in
            let fewer = count_at_most is_some is_some None None holders plan (sym size) (λ j h. plan_is.taken j ∙ h) in
            grind (arith, count-set plan end (Some from) has_end, plan_is.taken end, solved.count, free);
        cheapest = λ i j h k lt. elim (plan-cases j h) [
          | inl here ↦
              let least = grown.cheapest end nearest.within nearest.outside k lt in
              let stays = price_stays end nearest.within nearest.outside in
              rw (here.0, ← same_Some from i here.1) (omega (arith, ints, clamps, lowered k lt))
          | inr there ↦
              let lt' : j < n = omega (arith, length-IsColumnTakenBy plan j i there.1, plan_is.places) in
              elim (cases_Bool (has_column reached j)) [
                | inl inside ↦
                    let least = plan_is.cheapest i j lt' inside there.1 k lt in
                    let near = grown.ordered j end lt' nearest.within inside nearest.outside in
                    omega (arith, ints, clamps, lowered j lt', lowered k lt)
                | inr out ↦
                    let least = solved.cheapest i j (sym (plan_is.same j out) ∙ there.1) k lt in
                    omega (arith, ints, clamps, price_stays j lt' out, lowered k lt)
              ]
        ];
        free = λ j lt h. grind (arith, plan-cases j h, plan_is.taken j, outside j, price_stays j lt, solved.free j lt);
        zero =
            (end, nearest.within, price_stays end nearest.within nearest.outside ∙ solved.free end nearest.within free);
        high = λ j lt. omega (arith, ints, clamps, lowered j lt, solved.high j lt);
        low = λ j lt.
            let zero = solved.free end nearest.within free in
            let high = grown.close.high end nearest.within in
            omega (arith, ints, clamps, lowered j lt, solved.low j lt, grown.close.between j lt);
      }

-- the tree of the root alone, which has been compared with all columns
module _ {n root : ℕ} {cost : List (List ℕ)} {prices ceilings ceilings' : List ℤ} {holders : List (Option ℕ)}
    {reached : List Bool} {near near' : List ℕ} (few : n ≤ 32) (root_in : root < n) (costs : AreCostsAtMost 4 cost)
    (solved : IsSolvedUpTo n cost prices holders root) (places : length reached ≡ n)
    (none : (j : ℕ) → has_column reached j ≡ false) (long : length ceilings ≡ n)
    (far : All (λ s. s ≡ pos 32767) ceilings)
    (compared : AreCompared n cost reached root (pos 0) near ceilings near' ceilings') where
  -- the root is nearest to every column, as the first ceilings are far above every cost
  near-root : (j : ℕ) → j < n → (get_or near' j 0 ≡ root) × (price_at ceilings' j ≡ pos (cost_at cost root j))
  near-root j lt = grind (arith, ints, compared.at j lt, cost_at_most, far)

  pub IsGrownTree-root_alone : {plans : List (List (Option ℕ))} → length plans ≡ n → get_or plans root [] ≡ holders →
      IsGrownTree n cost prices holders root reached ceilings' near' plans
  IsGrownTree-root_alone plan_places plan = record {
    places = places;
    plan_places = plan_places;
    close = record {
      low = λ j lt. omega (arith, ints, solved.low j lt);
      between = λ j lt. omega (arith, ints, solved.high j lt, (near-root j lt).1);
      high = λ j lt. omega (arith, ints, (near-root j lt).1, cost_at_most cost costs root j);
    };
    taken = λ j h. absurd (false≢true (sym (none j) ∙ h));
    ordered = λ j k _ _ h. absurd (false≢true (sym (none j) ∙ h));
    cheapest = λ j lt _ k lt'. rw (near-root j lt).0 (omega (arith, ints, (near-root j lt).1, (near-root k lt').1));
    plan = λ j lt _. rw ((near-root j lt).0, plan) record {
      places = solved.places;
      out_in_range = root_in;
      rows = solved.rows;
      seated = λ i few other. solved.seated i (omega arith);
      cheapest = λ i j _ h. absurd (false≢true (sym (none j) ∙ h));
      same = λ j _. refl;
      taken = λ j. refl;
    };
  }
