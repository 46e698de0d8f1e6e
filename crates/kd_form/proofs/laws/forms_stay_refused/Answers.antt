use Rattle.std.proofs.Common.{◌++◌}
use Rattle.kd_form.proofs.OneText.{refused_after, stays_refused}
use Rattle.kd_form.proofs.laws.forms_stay_refused.Goals as goal

pub returns : goal.returns
returns c s form more text fault good =
    let still = stays_refused s form more text fault good in (refused_after s (form ++ more) text fault still, still)
