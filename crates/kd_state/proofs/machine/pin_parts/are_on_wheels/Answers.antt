use Rattle.kd_state.proofs.Slots.{is_numbered, numbered_at}
use Rattle.std.proofs.Common.{arith}
use Rattle.std.proofs.lemmas.Grind.{elements}
use Rattle.kd_state.proofs.machine.pin_parts.are_on_wheels.Goals as goal

pub returns : goal.returns
returns c = grind (arith, is_numbered, numbered_at)

pub returns-then-not-is_on_wheel : goal.returns-then-not-is_on_wheel
returns-then-not-is_on_wheel c = grind (arith, elements)

pub loop-place-preserved : goal.loop-place-preserved
loop-place-preserved c = grind (arith, elements)
