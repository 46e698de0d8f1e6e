use Rattle.kd_state.proofs.WheelsInSlots.{not_ready}
use Rattle.std.proofs.lemmas.Grind.{common_steps}
use Rattle.kd_state.proofs.{Prelude.{arith, refl}, WheelsInSlots.of_seated}
use Rattle.kd_state.proofs.engine.ready.ready_wheels.Goals as goal

pub returns-clause-ready : goal.returns-clause-ready
returns-clause-ready c =
    let seated = of_seated c.args.parts.now c.in_ok-wheels.wheels.items c.in_ok-wheels.ensures in
    (λ _. (seated.1, c.in_ok-plugs.ensures.ready.0 refl), λ _. refl)

pub returns-clause-key : goal.returns-clause-key
returns-clause-key c = grind (arith, of_seated)

pub returns-clause-slots : goal.returns-clause-slots
returns-clause-slots c = grind (arith, common_steps)

pub returns-in_err-wheels-clause-ready : goal.returns-in_err-wheels-clause-ready
returns-in_err-wheels-clause-ready c = grind (arith, not_ready)
