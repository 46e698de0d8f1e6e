use Rattle.std.proofs.Common.{◌≡◌, true, arith, subst, sym}
use Rattle.std.proofs.lemmas.Grind.{common_steps}
use Rattle.std.proofs.lemmas.Result.{IfOk-weaker}
use Rattle.csv.specs.Records.{fields_of}
use Rattle.kd_options.specs.TableOptions.{texts_of}
use Rattle.kd_spreadsheet.specs.Rows.{is_well_quoted}
use Rattle.kd_spreadsheet.specs.Table.{AreRows}
use Rattle.kd_spreadsheet.proofs.ReadRows.{first_row}
use Rattle.kd_spreadsheet.proofs.TableAnswers.{refused_of_rows, taken_of_rows}
use Rattle.kd_spreadsheet.proofs.sheet.take_table.Goals as goal

pub returns-in-len1-up-clause-refused : goal.returns-in-len1-up-clause-refused
returns-in-len1-up-clause-refused c = λ same.
    let first = first_row c.as_slice.result.now c.names-item.result c.in-len1-up.len_at_least c.names-item.is in
    let are = rw (sym c.as_slice.ensures.value) at c.in-Ok.ensures in
    refused_of_rows (texts_of c.args.options.now) c.args.table.now (fields_of c.names-item.result) _
    (subst (AreRows c.args.table.now) first are) (c.take_rows.ensures.refused same)

pub returns-in-len1-up-clause-taken : goal.returns-in-len1-up-clause-taken
returns-in-len1-up-clause-taken c =
    let first = first_row c.as_slice.result.now c.names-item.result c.in-len1-up.len_at_least c.names-item.is in
    let are = rw (sym c.as_slice.ensures.value) at c.in-Ok.ensures in
    let quoted : is_well_quoted c.args.table.now ≡ true = grind (arith, common_steps) in
    IfOk-weaker c.take_rows.result _ _ (λ taken is.
    taken_of_rows (texts_of c.args.options.now) c.args.table.now c.args.wording.language
    (fields_of c.names-item.result) _ taken.days.items taken.note.items quoted
    (subst (AreRows c.args.table.now) first are) is) c.take_rows.ensures.taken
