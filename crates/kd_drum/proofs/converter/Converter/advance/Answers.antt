use Rattle.kd_drum.proofs.{Letters.pin_wheel_turned, WheelsAfterLetters.key_moved}
use Rattle.kd_drum.specs.Converter.{PinKey, pin_key_after}
use Rattle.std.proofs.Common.{ap, refl, ◌∙◌}
use Rattle.kd_drum.proofs.converter.Converter.advance.Goals as goal

pub returns : goal.returns
returns c =
    let inside = c.self.inside in
    rw (
      c.advance.ensures.next,
      c.advance-2.ensures.next,
      c.advance-3.ensures.next,
      c.advance-4.ensures.next,
      c.advance-5.ensures.next,
      c.advance-6.ensures.next,
    ) (key_moved inside.w1 inside.w2 inside.w3 inside.w4 inside.w5 inside.w6 inside.bars c.self.invariant.0 1
    _ _ _ _ _ _ refl refl refl refl refl refl
    ∙ ap (λ (key : PinKey). pin_key_after key 1) c.self.view_is)

pub invariant_of-self : goal.invariant_of-self
invariant_of-self c =
    let stands = c.self.invariant.0 in (
      record {
        first = pin_wheel_turned 1 26 _ _ _ stands.first c.advance.ensures.next c.advance.ensures.wheel;
        second = pin_wheel_turned 2 25 _ _ _ stands.second c.advance-2.ensures.next c.advance-2.ensures.wheel;
        third = pin_wheel_turned 3 23 _ _ _ stands.third c.advance-3.ensures.next c.advance-3.ensures.wheel;
        fourth = pin_wheel_turned 4 21 _ _ _ stands.fourth c.advance-4.ensures.next c.advance-4.ensures.wheel;
        fifth = pin_wheel_turned 5 19 _ _ _ stands.fifth c.advance-5.ensures.next c.advance-5.ensures.wheel;
        sixth = pin_wheel_turned 6 17 _ _ _ stands.sixth c.advance-6.ensures.next c.advance-6.ensures.wheel;
      },
      c.self.invariant.1,
    )
