use Rattle.kd_look.proofs.Orders.{faultless_orders_agree, order_faults_agree}
use Rattle.kd_look.proofs.laws.orders_are_judged_as_send_judges_them.Goals as goal

pub returns : goal.returns
returns c = record { faults = order_faults_agree; faultless = faultless_orders_agree }
