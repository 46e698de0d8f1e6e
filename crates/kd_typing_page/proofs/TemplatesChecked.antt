-- The templates in two languages, computed.
use Rattle.std.proofs.Common.{refl}
use Rattle.kd_typing_page.specs.Plain.{TemplatesTakeTheirValues}

pub templates_take_their_values : TemplatesTakeTheirValues
templates_take_their_values = (
  (refl, refl),
  (refl, refl),
  (refl, refl),
  (refl, refl),
  (refl, refl),
  (refl, refl),
  (refl, refl),
  (refl, refl),
  refl,
  refl,
)
