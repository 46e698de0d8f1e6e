use Rattle.kd_page.proofs.MarkedThings.{bar_stays, letter_stays, pin_stays, plug_stays_in, plug_stays_out, reflector_stays, ring_stays, wheel_stays_out}
use Rattle.kd_page.proofs.laws.marks_have_settings.Goals as goal

pub returns : goal.returns
returns c m n list leads = record {
  rings = λ wheel. ring_stays wheel m n list leads;
  reflector = reflector_stays m n list leads;
  wheels = λ slot wheel. wheel_stays_out slot wheel m n list leads;
  pins = λ wheel letter. pin_stays wheel letter m n list leads;
  bars = λ bar. bar_stays bar m n list leads;
  letters = λ wheel. letter_stays wheel m n list leads;
  plugs_in = λ cable letter. plug_stays_out cable letter m n list leads;
  plugs_out = λ cable letter. plug_stays_in cable letter m n list leads;
}
