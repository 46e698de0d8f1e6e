use Rattle.std.proofs.Common.{arith, refl}
use Rattle.std.proofs.lemmas.List.{nil_from_length}
use Rattle.kd_message.proofs.Booklets.{first_refused, none_refused, refused_next, sent_next}
use Rattle.kd_message.proofs.SendPages.{refused_as_sent, sent}
use Rattle.kd_message.proofs.booklet.+check_orders.Goals as goal

pub returns-in_default-clause-sent : goal.returns-in_default-clause-sent
returns-in_default-clause-sent t c = none_refused c.args.machine.now c.args.day.now c.args.orders.now
    (nil_from_length c.args.orders.now (omega (arith, c.in_default.ensures.cases)))

pub returns-in-Err-clause-refused : goal.returns-in-Err-clause-refused
returns-in-Err-clause-refused t c =
    first_refused c.args.machine.now c.args.day.now c.args.place c.in-Some.order.now c.in-Some.rest.now
    c.args.orders.now c.in-Some.ensures.cases.0 _ refl (refused_as_sent _ _ _ _ _ c.in-Err.ensures)

pub returns-clause-sent : goal.returns-clause-sent
returns-clause-sent t c =
    let (ready, is) = sent _ _ _ _ _ c.in_default-send.ensures in
    sent_next c.args.machine.now c.args.day.now c.args.place c.in-Some.order.now c.in-Some.rest.now
    c.args.orders.now c.in-Some.ensures.cases.0 c.check_orders.result (ready, (_, is)) c.check_orders.ensures.sent

pub returns-clause-refused : goal.returns-clause-refused
returns-clause-refused t c =
    let (ready, is) = sent _ _ _ _ _ c.in_default-send.ensures in
    refused_next c.args.machine.now c.args.day.now c.args.place c.in-Some.order.now c.in-Some.rest.now
    c.args.orders.now c.in-Some.ensures.cases.0 c.check_orders.result (ready, (_, is)) c.check_orders.ensures.refused
