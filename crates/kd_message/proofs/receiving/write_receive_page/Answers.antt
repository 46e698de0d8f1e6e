use Rattle.std.proofs.Common.{◌≡◌, ◌∙◌, arith, refl, sym, subst, true, rules}
use Rattle.kd_pictures.proofs.Drawings.{writes_part}
use Rattle.kd_message.specs.ReceivePage.{AreWorkable, FormNotRead, NotNoted, Noted, ReceivedPageWritten}
use Rattle.kd_message.proofs.ReceivePages.{are_workable_parts, few_parts, or_true, page_begins}
use Rattle.kd_message.proofs.receiving.write_receive_page.Goals as goal

pub returns-in-Err-clause-page : goal.returns-in-Err-clause-page
returns-in-Err-clause-page g c =
    FormNotRead c.in-Err.fault c.in-Err.ensures.read refl (record { has = refl; well = refl })

pub draw_page-requires-clause-workable : goal.draw_page-requires-clause-workable
draw_page-requires-clause-workable g c =
    subst (AreWorkable c.args.day.now) (sym c.as_slice.ensures.value)
    (are_workable_parts c.args.day.now c.args.form.now c.in-Ok.parts.items c.in-Ok.ensures.read)

pub returns-then-failed-clause-page : goal.returns-then-failed-clause-page
returns-then-failed-clause-page g c =
    let few = few_parts _ _ _ c.in-Ok.ensures.read c.in-Ok.ensures.few in
    let drawn = rw c.as_slice.ensures.value at c.draw_page.ensures in
    ReceivedPageWritten c.in-Ok.parts.items c.in-Ok.ensures.read few
    (writes_part _ (page_begins c.args.options.results c.args.options.language c.args.day.now c.in-Ok.parts.items).1.1 drawn
    (search rules)) refl (search rules)

pub returns-clause-page : goal.returns-clause-page
returns-clause-page g c =
    let few = few_parts _ _ _ c.in-Ok.ensures.read c.in-Ok.ensures.few in
    let drawn = rw c.as_slice.ensures.value at c.draw_page.ensures in
    ReceivedPageWritten c.in-Ok.parts.items c.in-Ok.ensures.read few (search rules)
    (rw c.as_slice-else-failed.ensures.value at c.is_whole.ensures) (search rules)

pub returns-clause-failed : goal.returns-clause-failed
returns-clause-failed g c = let drawn = c.draw_page.ensures in (search rules)

pub returns-then-failed-clause-failed : goal.returns-then-failed-clause-failed
returns-then-failed-clause-failed g c =
    let failed : g.W.Sink.has_failed c.draw_page.new.sink ≡ true = grind (arith, c.failed.ensures, c.if-failed.true) in
    failed ∙ sym (or_true (g.W.Sink.has_failed c.args.sink.now))

pub draw_notes-requires-clause-workable : goal.draw_notes-requires-clause-workable
draw_notes-requires-clause-workable g c =
    subst (AreWorkable c.args.day.now) (sym c.as_slice-2.ensures.value)
    (are_workable_parts c.args.day.now c.args.form.now c.in-Ok.parts.items c.in-Ok.ensures.read)

pub returns-in-Err-clause-noted : goal.returns-in-Err-clause-noted
returns-in-Err-clause-noted g c = NotNoted c.in-Err.fault refl

pub returns-then-failed-clause-noted : goal.returns-then-failed-clause-noted
returns-then-failed-clause-noted g c =
    Noted c.in-Ok.parts.items c.in-Ok.ensures.read (rw c.as_slice-2.ensures.value at c.draw_notes.ensures)

pub returns-clause-noted : goal.returns-clause-noted
returns-clause-noted g c =
    Noted c.in-Ok.parts.items c.in-Ok.ensures.read (rw c.as_slice-2.ensures.value at c.draw_notes.ensures)
