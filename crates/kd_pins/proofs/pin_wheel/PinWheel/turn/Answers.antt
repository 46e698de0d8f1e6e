use Rattle.{kd_pins.proofs.Places.acts_past, kd_pins.specs.PinWheel.wheel_at_place, std.proofs.Common.{ap, refl, ◌∙◌}}
use Rattle.kd_pins.proofs.pin_wheel.PinWheel.turn.Goals as goal

pub invariant_of-self : goal.invariant_of-self
invariant_of-self g c =
    let acts = acts_past g.row.N c.args.place c.self.inside.offset _ c.requires c.self.invariant.1.inside refl in
    (c.self.invariant.0, acts.0, c.self.invariant.2)

pub returns-clause-turned : goal.returns-clause-turned
returns-clause-turned g c =
    let wheel = c.self.inside in
    let acts = acts_past g.row.N c.args.place wheel.offset _ c.requires c.self.invariant.1.inside refl in
    (λ i. record { ring = wheel.ring; offset = wheel.offset; pins = wheel.pins; place = acts.1 i })
    ∙ ap (λ w. wheel_at_place w c.args.place) c.self.view_is
