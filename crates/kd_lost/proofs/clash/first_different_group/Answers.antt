use Rattle.std.proofs.Common.{arith}
use Rattle.std.proofs.lemmas.Grind.{common_steps}
use Rattle.kd_lost.proofs.Clashes.{no_different_group}
use Rattle.kd_lost.proofs.clash.first_different_group.Goals as goal

pub returns-in-Some-clause-none : goal.returns-in-Some-clause-none
returns-in-Some-clause-none c =
    let none = no_different_group c.args.one.now c.args.other.now in
    grind (arith, common_steps)

pub returns-in-None-clause-none : goal.returns-in-None-clause-none
returns-in-None-clause-none c =
    let none = no_different_group c.args.one.now c.args.other.now in
    grind (arith, common_steps)
