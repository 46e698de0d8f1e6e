use Rattle.std.proofs.Common.{Err, Ok, false, rules, true}
use Rattle.kd_curator.specs.RunReceive.{OffKey}
use Rattle.kd_curator.proofs.ReceiveAnswers.{form_tells, notes_told, page_told}
use Rattle.kd_curator.proofs.run_receive.write_form.Goals as goal

pub returns-in-Err-clause-page : goal.returns-in-Err-clause-page
returns-in-Err-clause-page g c = OffKey _ (search rules) c.in-Err.fault c.in-Err.ensures (search rules)

pub returns-in-Ok-true-clause-page : goal.returns-in-Ok-true-clause-page
returns-in-Ok-true-clause-page g c =
    page_told _ _ _ _ _ _ _ (search rules) (search rules) (Ok true)
    (rw c.in-Ok-true.field-0-test at c.in-Ok-true.ensures.page)

pub returns-in-Ok-false-clause-page : goal.returns-in-Ok-false-clause-page
returns-in-Ok-false-clause-page g c =
    rw c.from-in-Ok-false.ensures (page_told _ _ _ _ _ _ _ (search rules) (search rules) (Ok false)
    (rw c.in-Ok-false.field-0-test at c.in-Ok-false.ensures.page))

pub returns-in-Err-write_receive_page-clause-page : goal.returns-in-Err-write_receive_page-clause-page
returns-in-Err-write_receive_page-clause-page g c =
    rw c.of_receive.ensures
    (page_told _ _ _ _ _ _ _ (search rules) (search rules) (Err c.in-Err-write_receive_page.fault)
    c.in-Err-write_receive_page.ensures.page)

pub returns-in-Ok-true-clause-told : goal.returns-in-Ok-true-clause-told
returns-in-Ok-true-clause-told g c =
    notes_told _ _ _ _ _ _ (search rules) (search rules) (Ok true)
    (rw c.in-Ok-true.field-0-test at c.in-Ok-true.ensures.noted)

pub returns-in-Ok-false-clause-told : goal.returns-in-Ok-false-clause-told
returns-in-Ok-false-clause-told g c =
    rw c.from-in-Ok-false.ensures (notes_told _ _ _ _ _ _ (search rules) (search rules) (Ok false)
    (rw c.in-Ok-false.field-0-test at c.in-Ok-false.ensures.noted))

pub returns-in-Err-write_receive_page-clause-told : goal.returns-in-Err-write_receive_page-clause-told
returns-in-Err-write_receive_page-clause-told g c =
    rw c.of_receive.ensures
    (notes_told _ _ _ _ _ _ (search rules) (search rules) (Err c.in-Err-write_receive_page.fault)
    c.in-Err-write_receive_page.ensures.noted)

pub returns-in-Ok-true-clause-tells : goal.returns-in-Ok-true-clause-tells
returns-in-Ok-true-clause-tells g c =
    form_tells g.E.Sink.taken g.E.Sink.has_failed _ _ _ _ _ _ c.in-Ok-true.ensures.noted c.in-Ok-true.ensures.quiet

pub returns-in-Ok-false-clause-tells : goal.returns-in-Ok-false-clause-tells
returns-in-Ok-false-clause-tells g c =
    form_tells g.E.Sink.taken g.E.Sink.has_failed _ _ _ _ _ _ c.in-Ok-false.ensures.noted c.in-Ok-false.ensures.quiet

pub returns-in-Err-write_receive_page-clause-tells : goal.returns-in-Err-write_receive_page-clause-tells
returns-in-Err-write_receive_page-clause-tells g c =
    form_tells g.E.Sink.taken g.E.Sink.has_failed _ _ _ _ _ _ c.in-Err-write_receive_page.ensures.noted
    c.in-Err-write_receive_page.ensures.quiet
