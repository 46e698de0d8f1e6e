use Rattle.std.proofs.Common.{ap, arith, length, sym, ℕ, ◌%◌, ◌++◌, ◌+◌, ◌/◌, ◌∙◌, ◌∷◌, ◌≡◌, []}
use Rattle.kd_typing.specs.RotorTable.{all_steps, wheels_moved}
use Rattle.std.proofs.lemmas.List.{length_push}
use Rattle.kd_typing.proofs.TableTexts.{digits_more}
use Rattle.kd_typing.proofs.rotor_rows.RotorRows.steps_line.Goals as goal

pub loop-number-preserved : goal.loop-number-preserved
loop-number-preserved c =
    let n = c.loop-number.number in
    let moved = λ (number : ℕ). wheels_moved c.args.self.now.wheels (number / 26) (number % 26) in
    let high : n / 26 % 26 ≡ n / 26 = omega arith in
    let digit : c.from.result ≡ 48 + moved n = grind (arith, high) in
    let longer = c.push.ensures.ascii (omega (arith, c.steps_at-steps.ensures.few, c.from.ensures)) in
    record {
      bytes = longer
          ∙ ap (λ bytes. bytes ++ c.from.result ∷ []) c.loop-number.invariant.bytes
          ∙ sym (digits_more moved n c.from.result digit);
      len = ap length longer ∙ length_push c.loop-number.text.bytes c.from.result
          ∙ ap (λ size. size + 1) c.loop-number.invariant.len;
    }

pub returns : goal.returns
unfolding all_steps
returns c =
    let all : c.loop-number.number ≡ 676 = omega arith in
    rw all at c.loop-number.invariant.bytes
