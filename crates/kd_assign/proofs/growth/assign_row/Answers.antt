use Rattle.std.proofs.Common.{[], ◌+◌, ◌∙◌, count_by, is_some, None, false, w16, rules, arith}
use Rattle.kd_assign.proofs.ScanCounts.{scans_of_tree-grows, scans_of_tree-least, scans_of_tree-more}
use Rattle.kd_assign.proofs.ScanCounts.{scans_of_tree-room}
use Rattle.kd_assign.proofs.TreeGrowth.{IsSolvedUpTo-with_root, IsGrownTree-root_alone, IsGrownTree-with_end}
use Rattle.kd_assign.proofs.TreeGrowth.{outside-exists}
use Rattle.kd_assign.proofs.Differences.{IsSmall-ceiling}
use Rattle.kd_assign.proofs.Places.{count_at_most, fewer-outside}
use Rattle.kd_assign.proofs.Prelude.{common_steps, get_or-set_same, length-set, to_z-of_z}
use Rattle.kd_assign.proofs.growth.assign_row.Goals as goal

pub loop-holders-init : goal.loop-holders-init
loop-holders-init g c = record {
  prices = c.told-prices;
  rows = c.join.ensures.rows;
  ceilings = c.join.ensures.ceilings;
  solved = c.requires.solved;
  grown =
      IsGrownTree-root_alone c.requires.few c.requires.row c.requires.costs c.requires.solved
      (grind (arith, common_steps))
      (λ j. grind (arith, common_steps)) (search rules) c.new-nearest.ensures.far c.join.ensures.compared
      (rw length-set c.told-plans) (get_or-set_same
      c.args.plans.now c.args.root c.args.holders.now [] (rw c.told-plans c.requires.row));
  scans = grind (arith, common_steps);
}

pub column-column-requires : goal.column-column-requires
column-column-requires g c =
    let so_far = c.loop-holders.invariant in
    let some = outside-exists so_far.solved so_far.grown (omega arith) in
    (search rules, (search rules, (search rules, (search rules, (so_far.grown.close, some)))))

pub bounds-plans-row : goal.bounds-plans-row
bounds-plans-row g c =
    let grown = c.loop-holders.invariant.grown in
    let nearest = c.column-column.ensures in
    let plan = grown.plan c.column-column.result nearest.within nearest.outside in
    omega (arith, grown.plan_places, plan.out_in_range)

pub bounds-plans-holder : goal.bounds-plans-holder
bounds-plans-holder g c =
    let so_far = c.loop-holders.invariant in
    omega (arith, so_far.grown.plan_places, so_far.solved.rows c.in-Some.holder _ c.in-Some.is)

pub level-level-requires : goal.level-level-requires
level-level-requires g c =
    let so_far = c.loop-holders.invariant in
    let within = c.column-column.ensures.within in
    let small = IsSmall-ceiling c.column-column.result so_far.grown.close within in (
      search rules,
      (
        search rules,
        (
          search rules,
          (so_far.solved.rows c.in-Some.holder _ c.in-Some.is, (within, (c.requires.costs, small))),
        ),
      ),
    )

pub room-by-requires : goal.room-by-requires
room-by-requires g c =
    (search rules, (search rules, (c.column-column.ensures.within, c.loop-holders.invariant.grown.close)))

pub join-requires-in-Some : goal.join-requires-in-Some
join-requires-in-Some g c =
    let so_far = c.loop-holders.invariant in
    let call = c.level-level.ensures in
    let exact = to_z-of_z w16 c.level-level.result (search rules) in
    let room =
    scans_of_tree-room _ _ _ c.loop-holders.reached c.requires.few c.requires.room so_far.grown.places so_far.scans in (
      search rules,
      (
        search rules,
        (
          search rules,
          (
            search rules,
            (
              so_far.solved.rows c.in-Some.holder _ c.in-Some.is,
              (c.requires.costs, (rw exact call.low, (rw exact call.high, room))),
            ),
          ),
        ),
      ),
    )

pub loop-holders-smaller : goal.loop-holders-smaller
loop-holders-smaller g c =
    let nearest = c.column-column.ensures in
    fewer-outside c.loop-holders.reached c.column-column.result
    (rw c.loop-holders.invariant.grown.places nearest.within) nearest.outside

pub loop-holders-preserved : goal.loop-holders-preserved
loop-holders-preserved g c =
    let so_far = c.loop-holders.invariant in
    let level = to_z-of_z w16 c.level-level.result (search rules) ∙ c.level-level.ensures.value in
    record {
      prices = so_far.prices;
      rows = c.join-in-Some.ensures.rows;
      ceilings = c.join-in-Some.ensures.ceilings;
      solved = so_far.solved;
      grown =
          IsGrownTree-with_end so_far.solved so_far.grown c.column-column.ensures c.in-Some.is level
          c.join-in-Some.ensures.compared;
      scans =
          scans_of_tree-more _ _ _ _ c.loop-holders.reached c.column-column.result so_far.grown.places
          c.column-column.ensures.within c.column-column.ensures.outside so_far.scans c.join-in-Some.ensures.counted;
    }

pub lower_prices-requires : goal.lower_prices-requires
lower_prices-requires g c = (search rules, (search rules, (search rules, search rules)))

pub returns-in-None-clause-solved : goal.returns-in-None-clause-solved
returns-in-None-clause-solved g c =
    let so_far = c.loop-holders.invariant in
    let room = to_z-of_z w16 c.room-by.result (search rules) ∙ c.room-by.ensures in
    IsSolvedUpTo-with_root so_far.solved so_far.grown c.column-column.ensures c.in-None.is room _
    c.lower_prices.ensures.lowered

pub returns-in-None-clause-least_scans : goal.returns-in-None-clause-least_scans
returns-in-None-clause-least_scans g c =
    let least = scans_of_tree-least g.row.N (count_by (λ r. r) c.loop-holders.reached) in
    omega (arith, least, c.loop-holders.invariant.scans)

pub returns-in-None-clause-most_scans : goal.returns-in-None-clause-most_scans
returns-in-None-clause-most_scans g c =
    let so_far = c.loop-holders.invariant in
    let same = so_far.solved.places in
    let few = count_at_most (λ r. r) is_some false None c.loop-holders.reached c.loop-holders.holders
    (omega (arith, so_far.grown.places)) so_far.grown.taken in
    let grows =
    scans_of_tree-grows g.row.N (count_by (λ r. r) c.loop-holders.reached + 1) (c.args.root + 1)
    (omega (arith, few, so_far.solved.count)) in
    omega (arith, grows, so_far.scans)
