use Rattle.kd_state.proofs.Carrying.{lead_or_refuse}
use Rattle.kd_state.proofs.laws.settings_lead_or_are_refused.Goals as goal

pub returns : goal.returns
returns c = lead_or_refuse
