use Rattle.kd_booklet.proofs.Chains.{adds_plan}
use Rattle.kd_booklet.proofs.chain.+add_plans.Goals as goal

pub returns-clause-planned : goal.returns-clause-planned
returns-clause-planned t c =
    adds_plan _ _ _ _ _ _ _ _ _ _ _ _ c.in-Some.ensures.cases.0 c.in_ok-day.ensures.found
    c.plan_day-plan.ensures.plan c.push.ensures.items c.add_plans.ensures.planned
