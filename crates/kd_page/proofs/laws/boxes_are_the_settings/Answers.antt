use Rattle.kd_page.proofs.PageOrders.{pin_boxes_are, rotor_boxes_are}
use Rattle.kd_page.proofs.laws.boxes_are_the_settings.Goals as goal

pub returns-clause-rotor : goal.returns-clause-rotor
returns-clause-rotor c = rotor_boxes_are

pub returns-clause-pin : goal.returns-clause-pin
returns-clause-pin c = pin_boxes_are
