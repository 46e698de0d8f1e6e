use Rattle.kd_form.proofs.OrderSteps.{IsOrderFaultForGood-append, HasFault, refl}
use Rattle.kd_form.proofs.laws.orders_stay_refused.Goals as goal

pub returns : goal.returns
returns c s order more fault good = HasFault fault (IsOrderFaultForGood-append more good).found refl
