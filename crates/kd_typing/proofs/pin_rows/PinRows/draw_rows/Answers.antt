use Rattle.std.proofs.Common.{arith, rules, ◌≡◌}
use Rattle.kd_typing.specs.PinTable.{pin_row, pin_rows}
use Rattle.kd_typing.proofs.TableTexts.{one_more}
use Rattle.kd_typing.proofs.pin_rows.PinRows.draw_rows.Goals as goal

pub loop-number-preserved : goal.loop-number-preserved
loop-number-preserved g c =
    one_more (pin_row c.args.self.now) c.loop-number.number c.loop-number.invariant (search rules)

pub returns : goal.returns
unfolding pin_rows
returns g c =
    let all : c.loop-number.number ≡ 64 = omega arith in
    rw all at c.loop-number.invariant
