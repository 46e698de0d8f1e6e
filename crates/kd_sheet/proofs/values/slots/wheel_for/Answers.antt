use Rattle.kd_sheet.proofs.ReadBack.Described.KeyValues.{arith, has_wheel-Decides, is_seated-Decides, not_seated}
use Rattle.kd_sheet.proofs.ReadBack.Described.KeyValues.{wheel_for}
use Rattle.kd_sheet.proofs.values.slots.wheel_for.Goals as goal

pub returns : goal.returns
unfolding wheel_for
returns c = grind (arith, has_wheel-Decides, not_seated, c.if-contains.ensures)

pub returns-in_err-wheel : goal.returns-in_err-wheel
unfolding wheel_for
returns-in_err-wheel c = grind arith

pub returns-then-not-allowed : goal.returns-then-not-allowed
unfolding wheel_for
returns-then-not-allowed c = grind (arith, has_wheel-Decides)

pub returns-then-contains : goal.returns-then-contains
unfolding wheel_for
returns-then-contains c = grind (arith, has_wheel-Decides, is_seated-Decides, c.if-contains.ensures)
