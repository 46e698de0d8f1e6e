use Rattle.{kd_assign.proofs.Places.length-IsColumnTakenBy, kd_assign.proofs.AllRows.one_to_one}
use Rattle.{std.proofs.Common.arith}
use Rattle.kd_assign.proofs.columns.columns_of_rows.Goals as goal

pub returns-clause-columns : goal.returns-clause-columns
returns-clause-columns g c = λ i h.
    let seat = c.requires.seated i h in
    c.loop-column.invariant.written i seat.0
    (omega (arith, length-IsColumnTakenBy c.args.holders.now seat.0 i seat.1)) seat.1

pub returns-clause-one_to_one : goal.returns-clause-one_to_one
returns-clause-one_to_one g c =
    one_to_one c.args.holders.now c.loop-column.columns (omega arith)
    (λ i h. returns-clause-columns g c i (omega arith))
