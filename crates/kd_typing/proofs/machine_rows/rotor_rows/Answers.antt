use Rattle.kd_typing.proofs.MachineTyping.{types_as_rotor_machine}
use Rattle.kd_typing.proofs.machine_rows.rotor_rows.Goals as goal

pub returns-clause-typing : goal.returns-clause-typing
returns-clause-typing c =
    let ready = c.in_ok-ready.ready in
    types_as_rotor_machine c.args.parts.now ready.wheels.items ready.reflector ready.plugs c.in_ok-ready.ensures.key
    c.in_ok-ready.ensures.slots c.in_ok-ready.ensures.plugs
