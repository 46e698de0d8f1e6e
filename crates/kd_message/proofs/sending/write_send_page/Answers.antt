use Rattle.std.proofs.Common.{refl, rules}
use Rattle.kd_pictures.proofs.Drawings.{writes_part}
use Rattle.kd_message.proofs.SendPages.{refused_as_sent, sent, shown_begins}
use Rattle.kd_message.specs.SendPage.{PageWritten, Refused}
use Rattle.kd_message.proofs.sending.write_send_page.Goals as goal

pub returns-in-Err-clause-page : goal.returns-in-Err-clause-page
returns-in-Err-clause-page g c =
    Refused _ (refused_as_sent _ _ _ _ _ c.in-Err.ensures) refl (record { has = refl; well = refl })

pub draw_page-requires : goal.draw_page-requires
draw_page-requires g c = (_, (sent _ _ _ _ _ c.in_default.ensures).1)

pub returns-then-failed-clause-page : goal.returns-then-failed-clause-page
returns-then-failed-clause-page g c =
    let (ready, is) = sent _ _ _ _ _ c.in_default.ensures in
    let (page, shown, draws) = c.draw_page.ensures _ is in
    PageWritten _ page ready is shown (writes_part _ (shown_begins _ _ _ _ _ _ shown).1.1 draws (search rules))
    (search rules) (search rules)

pub returns-else-failed-clause-page : goal.returns-else-failed-clause-page
returns-else-failed-clause-page g c =
    let (ready, is) = sent _ _ _ _ _ c.in_default.ensures in
    let (page, shown, draws) = c.draw_page.ensures _ is in
    PageWritten _ page ready is shown (search rules) (search rules) (search rules)

pub returns-else-failed-clause-failed : goal.returns-else-failed-clause-failed
returns-else-failed-clause-failed g c =
    let (ready, is) = sent _ _ _ _ _ c.in_default.ensures in
    let (page, shown, draws) = c.draw_page.ensures _ is in
    (search rules)
