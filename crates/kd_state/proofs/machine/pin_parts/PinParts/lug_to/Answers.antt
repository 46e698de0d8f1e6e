use Rattle.kd_state.proofs.Slots.{is_numbered}
use Rattle.std.proofs.Common.{arith}
use Rattle.std.proofs.lemmas.Grind.{common_steps}
use Rattle.kd_state.proofs.machine.pin_parts.PinParts.lug_to.Goals as goal

pub returns-in_default-with_lug : goal.returns-in_default-with_lug
returns-in_default-with_lug c = grind (arith, common_steps)

pub set_numbered_item-requires-clause-last : goal.set_numbered_item-requires-clause-last
set_numbered_item-requires-clause-last c = grind (arith, is_numbered)
