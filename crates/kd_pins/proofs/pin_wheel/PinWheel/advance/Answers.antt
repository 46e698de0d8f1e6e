use Rattle.kd_pins.{proofs.Places.acts_next, specs.PinWheel.place_past, specs.PinWheel.wheel_at_place}
use Rattle.std.proofs.Common.{ap, ◌∙◌}
use Rattle.kd_pins.proofs.pin_wheel.PinWheel.advance.Goals as goal

pub invariant_of-self : goal.invariant_of-self
invariant_of-self g c =
    let next = c.next_place-self-inside.ensures in
    let acts = acts_next g.row.N c.self.inside.acting c.self.inside.offset _ c.self.invariant.1 next in
    (c.self.invariant.0, acts.0, c.self.invariant.2)

pub returns-clause-next : goal.returns-clause-next
returns-clause-next g c =
    let wheel = c.self.inside in
    let acts = acts_next g.row.N wheel.acting wheel.offset _ c.self.invariant.1 c.next_place-self-inside.ensures in
    (λ i. record { ring = wheel.ring; offset = wheel.offset; pins = wheel.pins; place = acts.1 i })
    ∙ ap (λ w. wheel_at_place w (place_past g.row.N w.place 1)) c.self.view_is
