use Rattle.std.proofs.Common.{arith, length, ◌≤◌, subst}
use Rattle.std.proofs.lemmas.Grind.{common_steps}
use Rattle.kd_lost.specs.DamagedText.{GroupTested}
use Rattle.kd_lost.proofs.warnings.test_body.Goals as goal

pub returns-in-Some : goal.returns-in-Some
returns-in-Some c =
    let rotor = c.in-Some.ensures in
    GroupTested rotor.day rotor.is
    (subst (λ n. n ≤ length c.args.body.now) c.front_letters.ensures c.if-body-front_letters.false)
    c.test_group.ensures

pub returns-then-body-front_letters : goal.returns-then-body-front_letters
returns-then-body-front_letters c = grind (arith, common_steps)

pub returns-in-None : goal.returns-in-None
returns-in-None c = grind (arith, common_steps)

pub returns-in-None-2 : goal.returns-in-None-2
returns-in-None-2 c = grind (arith, common_steps)

pub test_group-requires : goal.test_group-requires
test_group-requires c = grind (arith, common_steps)

pub test_list-requires : goal.test_list-requires
test_list-requires c = grind (arith, common_steps)

pub test_list-requires-in-None-2 : goal.test_list-requires-in-None-2
test_list-requires-in-None-2 c = grind (arith, common_steps)

pub overflow_sub-body : goal.overflow_sub-body
overflow_sub-body c = grind (arith, common_steps)
