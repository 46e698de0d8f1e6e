use Rattle.kd_sheet.proofs.ReadBack.Described.{arith, insert_day}
use Rattle.kd_sheet.proofs.sheet.Sheet.insert.Goals as goal

pub invariant_of-self : goal.invariant_of-self
invariant_of-self c =
    insert_day _ _ _ c.self.invariant (omega (arith, c.day.ensures.within.first))
    (omega (arith, c.day.ensures.within.last))
