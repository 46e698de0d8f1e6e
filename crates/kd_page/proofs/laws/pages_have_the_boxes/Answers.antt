use Rattle.kd_page.proofs.PagesWithBoxes.{pin_pages, rotor_pages}
use Rattle.kd_page.proofs.laws.pages_have_the_boxes.Goals as goal

pub returns-clause-rotor : goal.returns-clause-rotor
returns-clause-rotor c = rotor_pages

pub returns-clause-pin : goal.returns-clause-pin
returns-clause-pin c = pin_pages
