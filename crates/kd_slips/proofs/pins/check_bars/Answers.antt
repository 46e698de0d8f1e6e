use Rattle.kd_slips.proofs.Finding.{of_its_row}
use Rattle.kd_slips.proofs.pins.check_bars.Goals as goal

pub returns-in-Err-BadRow-clause-item : goal.returns-in-Err-BadRow-clause-item
returns-in-Err-BadRow-clause-item c = of_its_row c.refuse_row.result _ c.refuse_row.ensures.slip
