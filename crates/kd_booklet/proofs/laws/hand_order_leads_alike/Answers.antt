use Rattle.kd_booklet.proofs.HandOrders.{hand_order_permutes, hand_order_leads}
use Rattle.kd_booklet.proofs.laws.hand_order_leads_alike.Goals as goal

pub returns-clause-same : goal.returns-clause-same
returns-clause-same c = hand_order_permutes

pub returns-clause-leads : goal.returns-clause-leads
returns-clause-leads c = hand_order_leads
