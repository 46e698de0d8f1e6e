use Rattle.kd_state.proofs.Prelude.{take, Leads}
use Rattle.kd_state.proofs.setting.carry_list.carry_all.Given as goal

abbrev pub invariant-loop-place : goal.invariant-loop-place
invariant-loop-place l = Leads l.machine (take l.place l.settings) l.carried
