use Rattle.std.proofs.Common.{arith}
use Rattle.kd_slips.proofs.Finding.{no_value, on_err}
use Rattle.kd_slips.proofs.letters.check_on_wheel.Goals as goal

pub returns : goal.returns
returns c = record {
  on = no_value c.refuse.result _ c.refuse.ensures.refused;
  off =
      on_err c.refuse.result _
      (grind (arith, c.place_on_wheel.ensures.exists, c.is_some.ensures, c.if-is_some.false));
  slip = c.refuse.ensures.slip;
}
