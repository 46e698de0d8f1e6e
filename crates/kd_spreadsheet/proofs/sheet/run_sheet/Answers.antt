use Rattle.std.proofs.Common.{◌∙◌, Err, ap}
use Rattle.kd_options.specs.TableOptions.{texts_of}
use Rattle.kd_spreadsheet.proofs.TableAnswers.{read_back, same_fault, still_refused}
use Rattle.kd_spreadsheet.proofs.sheet.run_sheet.Goals as goal

pub returns-in-Err-clause-refused : goal.returns-in-Err-clause-refused
returns-in-Err-clause-refused g c = λ same.
    let told = c.tell_refused-told in
    let e = still_refused c.in-Err.fault told.result told.ensures.fault (same_fault _ _ same) in
    c.take_table.ensures.refused (c.in-Err.is ∙ ap (λ fault. Err fault) e)

pub returns-in-Ok-write_sheet-clause-sheet : goal.returns-in-Ok-write_sheet-clause-sheet
returns-in-Ok-write_sheet-clause-sheet g c =
    let written = rw c.as_slice-2.ensures.value at c.in-Ok-write_sheet.ensures.text.whole in (
      c.in-Ok.taken.days.items,
      c.in-Ok.ensures.taken.means,
      written,
      read_back (texts_of c.args.options.now) c.args.table.now c.in-Ok.taken.days.items c.in-Ok.ensures.taken.means,
    )
