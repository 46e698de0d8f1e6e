use Rattle.std.proofs.Common.{length, rules, ◌-◌}
use Rattle.kd_typing.specs.RotorTable.{core_row, letters_with_number}
use Rattle.kd_typing.proofs.TableTexts.{one_more}
use Rattle.kd_typing.proofs.rotor_rows.RotorRows.draw_core.Goals as goal

pub loop-number-preserved : goal.loop-number-preserved
loop-number-preserved g c =
    one_more (λ n. core_row c.args.self.now (letters_with_number (length c.args.self.now.wheels - 1) n))
    c.loop-number.number c.loop-number.invariant (search rules)
