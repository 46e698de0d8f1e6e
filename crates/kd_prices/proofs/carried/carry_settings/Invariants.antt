use Rattle.kd_prices.proofs.Leading.{IsCarriedUpTo}
use Rattle.kd_prices.proofs.carried.carry_settings.Given as goal

abbrev pub invariant-loop-place : goal.invariant-loop-place
invariant-loop-place l = IsCarriedUpTo l.machine l.reached l.day l.settings l.place l.loose l.need_result
