use Rattle.std.proofs.Common.{refl, rules}
use Rattle.kd_pictures.proofs.Drawings.{writes_part}
use Rattle.kd_message.proofs.Booklets.{all_good, booklet_begins}
use Rattle.kd_message.specs.SendBooklet.{BookletWritten, OrderRefused}
use Rattle.kd_message.proofs.booklet.write_send_booklet.Goals as goal

pub returns-in-Err-clause-pages : goal.returns-in-Err-clause-pages
returns-in-Err-clause-pages g c = OrderRefused _ c.in-Err.ensures.refused refl (record { has = refl; well = refl })

pub draw_booklet-requires-clause-good : goal.draw_booklet-requires-clause-good
draw_booklet-requires-clause-good g c =
    all_good c.args.machine.now c.args.day.now c.args.orders.now c.in_default.ensures.sent

pub returns-then-failed-clause-pages : goal.returns-then-failed-clause-pages
returns-then-failed-clause-pages g c =
    let (text, booklet, draws) = c.draw_booklet.ensures in
    BookletWritten c.in_default.ensures.sent text booklet
    (writes_part _ (booklet_begins _ _ _ _ _ booklet).1.1 draws (search rules)) (search rules) (search rules)

pub returns-else-failed-clause-pages : goal.returns-else-failed-clause-pages
returns-else-failed-clause-pages g c =
    let (text, booklet, draws) = c.draw_booklet.ensures in
    BookletWritten c.in_default.ensures.sent text booklet (search rules) (search rules) (search rules)

pub returns-else-failed-clause-failed : goal.returns-else-failed-clause-failed
returns-else-failed-clause-failed g c =
    let (text, booklet, draws) = c.draw_booklet.ensures in (search rules)
