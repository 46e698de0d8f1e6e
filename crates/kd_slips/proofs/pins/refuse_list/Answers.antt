use Rattle.std.proofs.Common.{refl}
use Rattle.kd_slips.specs.Items.{IsOfItsRow}
use Rattle.kd_slips.proofs.Finding.{handed_on, no_row, refused-no_row, type_fault-row}
use Rattle.kd_slips.proofs.pins.refuse_list.Goals as goal

pub returns-in_err-items-clause-slip : goal.returns-in_err-items-clause-slip
returns-in_err-items-clause-slip c =
    handed_on c.from_residual.result _ IsOfItsRow c.from_residual.ensures.1
    (no_row _ _ (type_fault-row _ _) c.in_err-items.ensures.slip)

pub returns-in_err-check_count-clause-slip : goal.returns-in_err-check_count-clause-slip
returns-in_err-check_count-clause-slip c =
    handed_on c.from_residual-in_err-check_count.result _ IsOfItsRow c.from_residual-in_err-check_count.ensures.1
    (no_row _ _ refl c.in_err-check_count.ensures.slip)

pub returns-clause-slip : goal.returns-clause-slip
returns-clause-slip c = refused-no_row c.refuse.result _ refl c.refuse.ensures.slip
