use Rattle.std.proofs.Common.{ap, refl, rules, sym, ◌∙◌, ◌≡◌, ℕ}
use Rattle.kd_tables.specs.Rings.{ring_of}
use Rattle.kd_pins.specs.PinWheels.{pins_on}
use Rattle.kd_pictures.proofs.Drawings.{both, nothing_drawn}
use Rattle.kd_typing.specs.PinTable.{acting_pins}
use Rattle.kd_typing.specs.TableText.{pins_text}
use Rattle.kd_typing.proofs.TableTexts.{acting_line, wheel_drawn}
use Rattle.kd_typing.proofs.pin_rows.PinRows.draw_wheels.Goals as goal

pub returns : goal.returns
unfolding ring_of
returns g c =
    let key = c.args.self.now in
    let pins = c.pins-pins.result.now in
    let on = λ (wheel : ℕ). ap (λ all. pins_on all wheel) (sym c.pins-pins.ensures) in
    let first : c.as_str.result.now ≡ pins_text (acting_pins key 1) =
    c.as_str.ensures.value ∙ c.acting_text.ensures ∙ sym (acting_line key 1 15 pins.w1 (on 1) refl (search rules)) in
    both (rw first at c.draw.ensures)
    (both (wheel_drawn key 2 14 pins.w2 c.draw_wheel.ensures (on 2) refl (search rules))
    (both (wheel_drawn key 3 13 pins.w3 c.draw_wheel-2.ensures (on 3) refl (search rules))
    (both (wheel_drawn key 4 12 pins.w4 c.draw_wheel-3.ensures (on 4) refl (search rules))
    (both (wheel_drawn key 5 11 pins.w5 c.draw_wheel-4.ensures (on 5) refl (search rules))
    (both (wheel_drawn key 6 10 pins.w6 c.draw_wheel-5.ensures (on 6) refl (search rules)) nothing_drawn)))))
