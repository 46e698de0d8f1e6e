use Rattle.std.proofs.Common.{subst}
use Rattle.csv.specs.Records.{fields_of}
use Rattle.kd_options.specs.TableOptions.{OptionTexts}
use Rattle.kd_spreadsheet.specs.Row.{IsDayOfRow}
use Rattle.kd_spreadsheet.specs.declared.columns.Columns.{Columns}
use Rattle.kd_spreadsheet.proofs.Noting.{is_some_day}
use Rattle.kd_spreadsheet.proofs.notes.row_note.is_untold.Goals as goal

pub returns-in-Some : goal.returns-in-Some
returns-in-Some c = λ none has same.
    let head = c.args.head.now in
    let row = fields_of c.args.row.now in
    let day = c.in-Some.field-0 in
    let P : OptionTexts → Type 0 = λ options. IsDayOfRow options c.columns-columns.result.now row day in
    let Q : Columns → Type 0 = λ columns. IsDayOfRow head.options columns row day in
    let is = subst Q c.columns-columns.ensures (subst P c.options-options.ensures c.in-Some.ensures) in
    absurd (is_some_day head.options head.columns row day is none)
