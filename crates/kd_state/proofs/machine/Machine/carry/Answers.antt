use Rattle.kd_state.proofs.Carrying.{settings_keep_machines}
use Rattle.kd_state.proofs.machine.Machine.carry.Goals as goal
use Rattle.kd_state.proofs.machine.Machine.carry.Goals.{in-Ok, in-Err}

pub invariant_of-self : goal.invariant_of-self
invariant_of-self c = elim c.match-carry.branch [
  | in-Ok w ↦ settings_keep_machines _ _ _ c.self.invariant c.learn_setting_range.ensures w.in-Ok.ensures
  | in-Err w ↦ rw w.in-Err.ensures.1 c.self.invariant
]
