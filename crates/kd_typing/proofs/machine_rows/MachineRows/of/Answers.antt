use Rattle.std.proofs.Common.{sym, subst, ◌∙◌}
use Rattle.kd_typing.specs.MachineTable.{TypesAsMachine}
use Rattle.kd_typing.proofs.MachineTyping.{types_as_converter}
use Rattle.kd_typing.proofs.machine_rows.MachineRows.of.Goals as goal

pub returns-in-Pin-clause-typing : goal.returns-in-Pin-clause-typing
returns-in-Pin-clause-typing c =
    subst TypesAsMachine (sym c.in-Pin.is ∙ c.parts.ensures.parts) (types_as_converter c.in-Pin.parts)
