use Rattle.std.proofs.Common.{arith}
use Rattle.std.proofs.lemmas.Grind.{elements}
use Rattle.kd_state.proofs.machine.rotor_parts.RotorParts.pull.Goals as goal

pub set_numbered_item-requires-clause-last : goal.set_numbered_item-requires-clause-last
set_numbered_item-requires-clause-last c = grind (arith, elements)
