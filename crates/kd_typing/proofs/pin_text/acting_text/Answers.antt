use Rattle.std.proofs.Common.{ap, arith, length, sym, ◌%◌, ◌++◌, ◌+◌, ◌∙◌, ◌∷◌, ◌≡◌, [], ℕ}
use Rattle.kd_pins.specs.PinWheel.{is_effective}
use Rattle.kd_typing.specs.TableText.{acting_text, pins_text}
use Rattle.kd_typing.proofs.TableTexts.{pins_more}
use Rattle.kd_typing.proofs.pin_text.acting_text.Goals as goal

pub loop-place-preserved : goal.loop-place-preserved
loop-place-preserved c =
    let pins = c.args.pins.now in
    let acts = λ (place : ℕ). is_effective pins ((place + c.args.offset) % length pins) in
    record {
      bytes = c.push_digit.ensures.bytes
          ∙ ap (λ bytes. bytes ++ pins_text (acts c.loop-place.place ∷ [])) c.loop-place.invariant.bytes
          ∙ sym (pins_more acts c.loop-place.place);
      len = c.push_digit.ensures.len ∙ ap (λ size. size + 1) c.loop-place.invariant.len;
    }

pub returns : goal.returns
unfolding acting_text
returns c =
    let all : c.loop-place.place ≡ length c.args.pins.now = omega arith in
    rw all at c.loop-place.invariant.bytes
