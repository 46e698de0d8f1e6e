use Rattle.std.proofs.Common.{arith}
use Rattle.std.proofs.lemmas.Grind.{common_steps}
use Rattle.kd_sheet.proofs.values.pin_wheels.pins_of_items.Goals as goal

pub returns : goal.returns
returns c = grind (arith, common_steps)

pub returns-in_err-pins_of_item : goal.returns-in_err-pins_of_item
returns-in_err-pins_of_item c = grind (arith, common_steps)

pub returns-in_err-pins_of_item-2 : goal.returns-in_err-pins_of_item-2
returns-in_err-pins_of_item-2 c = grind (arith, common_steps)

pub returns-in_err-pins_of_item-3 : goal.returns-in_err-pins_of_item-3
returns-in_err-pins_of_item-3 c = grind (arith, common_steps)

pub returns-in_err-pins_of_item-4 : goal.returns-in_err-pins_of_item-4
returns-in_err-pins_of_item-4 c = grind (arith, common_steps)

pub returns-in_err-pins_of_item-5 : goal.returns-in_err-pins_of_item-5
returns-in_err-pins_of_item-5 c = grind (arith, common_steps)

pub returns-in_err-pins_of_item-6 : goal.returns-in_err-pins_of_item-6
returns-in_err-pins_of_item-6 c = grind (arith, common_steps)
