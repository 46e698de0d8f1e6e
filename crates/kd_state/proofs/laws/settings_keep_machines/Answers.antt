use Rattle.kd_state.proofs.Carrying.{settings_keep_machines, lists_keep_machines}
use Rattle.kd_state.proofs.laws.settings_keep_machines.Goals as goal

pub returns : goal.returns
returns c = record { one = settings_keep_machines; lists = lists_keep_machines }
