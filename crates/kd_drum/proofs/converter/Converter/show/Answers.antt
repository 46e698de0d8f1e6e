use Rattle.std.proofs.Common.{ap, ◌∙◌, ◌∷◌, [], arith, rules}
use Rattle.kd_drum.{proofs.Letters.{pin_wheel_turned, shows_letter, six_letters}, specs.Converter.IsEachOnItsWheel}
use Rattle.kd_drum.specs.Converter.{pin_key_turned}
use Rattle.kd_drum.proofs.converter.Converter.show.Goals as goal

pub returns : goal.returns
returns c =
    let there = c.args.letters in
    let on : IsEachOnItsWheel there = c.requires in
    let stands = c.self.invariant.0 in
    let l1 = shows_letter _ _ there 0 _ _ stands.first.ring (search rules)
    (on 1 (omega arith) (omega arith)) c.show.ensures.shows in
    let l2 = shows_letter _ _ there 1 _ _ stands.second.ring (search rules)
    (on 2 (omega arith) (omega arith)) c.show-2.ensures.shows in
    let l3 = shows_letter _ _ there 2 _ _ stands.third.ring (search rules)
    (on 3 (omega arith) (omega arith)) c.show-3.ensures.shows in
    let l4 = shows_letter _ _ there 3 _ _ stands.fourth.ring (search rules)
    (on 4 (omega arith) (omega arith)) c.show-4.ensures.shows in
    let l5 = shows_letter _ _ there 4 _ _ stands.fifth.ring (search rules)
    (on 5 (omega arith) (omega arith)) c.show-5.ensures.shows in
    let l6 = shows_letter _ _ there 5 _ _ stands.sixth.ring (search rules)
    (on 6 (omega arith) (omega arith)) c.show-6.ensures.shows in
    let letters = (λ i. l1 i ∷ l2 i ∷ l3 i ∷ l4 i ∷ l5 i ∷ l6 i ∷ []) ∙ six_letters there (search rules) in
    (λ i. record {
      pins =
          ap (λ w. w.pins) c.show.ensures.turned i ∷ ap (λ w. w.pins) c.show-2.ensures.turned i
          ∷ ap (λ w. w.pins) c.show-3.ensures.turned i
          ∷ ap (λ w. w.pins) c.show-4.ensures.turned i ∷ ap (λ w. w.pins) c.show-5.ensures.turned i
          ∷ ap (λ w. w.pins) c.show-6.ensures.turned i ∷ [];
      letters = letters i;
      bars = c.self.inside.bars;
    }) ∙ ap (λ key. pin_key_turned key there) c.self.view_is

pub invariant_of-self : goal.invariant_of-self
invariant_of-self c =
    let stands = c.self.invariant.0 in (
      record {
        first = pin_wheel_turned 1 26 _ _ _ stands.first c.show.ensures.turned c.show.ensures.wheel;
        second = pin_wheel_turned 2 25 _ _ _ stands.second c.show-2.ensures.turned c.show-2.ensures.wheel;
        third = pin_wheel_turned 3 23 _ _ _ stands.third c.show-3.ensures.turned c.show-3.ensures.wheel;
        fourth = pin_wheel_turned 4 21 _ _ _ stands.fourth c.show-4.ensures.turned c.show-4.ensures.wheel;
        fifth = pin_wheel_turned 5 19 _ _ _ stands.fifth c.show-5.ensures.turned c.show-5.ensures.wheel;
        sixth = pin_wheel_turned 6 17 _ _ _ stands.sixth c.show-6.ensures.turned c.show-6.ensures.wheel;
      },
      c.self.invariant.1,
    )
