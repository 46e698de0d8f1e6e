use Rattle.kd_sheet.proofs.ReadBack.Described.{arith, ltb-true, day_number_at}
use Rattle.kd_sheet.proofs.sheet.Sheet.into_day.Goals as goal

pub returns-clause-number : goal.returns-clause-number
returns-clause-number c =
    let here = day_number_at _ c.args.number c.in_ok-index.index c.take.result c.self.invariant in
    grind (arith, here, ltb-true, c.in_ok-index.ensures, c.in_ok-get_mut.ensures)
