use Rattle.std.proofs.Common.{None, refl}
use Rattle.kd_slips.specs.Items.{HasFault}
use Rattle.kd_slips.proofs.Finding.{handed_on, on_err}
use Rattle.kd_slips.proofs.values.items_at.Goals as goal

pub returns-in_err-value_at-clause-other : goal.returns-in_err-value_at-clause-other
returns-in_err-value_at-clause-other c = on_err c.from_residual.result _ (rw c.in_err-value_at.ensures.missing refl)

pub returns-in_err-value_at-clause-slip : goal.returns-in_err-value_at-clause-slip
returns-in_err-value_at-clause-slip c =
    handed_on c.from_residual.result _ (HasFault _ None) c.from_residual.ensures.1
    (rw c.in_err-value_at.ensures.missing c.in_err-value_at.ensures.slip)

pub returns : goal.returns
returns c =
    rw c.in_ok-value_at.ensures.found (record {
      found = c.items_of.ensures.found;
      other = c.items_of.ensures.other;
      slip = c.items_of.ensures.slip;
    })
