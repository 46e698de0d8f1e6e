use Rattle.std.proofs.Common.{◌∙◌, [], sym}
use Rattle.std.proofs.lemmas.List.{append-nil}
use Rattle.std.proofs.lemmas.Result.{IfOk-weaker}
use Rattle.csv.specs.Records.{fields_of}
use Rattle.kd_spreadsheet.specs.Notes.{BlankTold, RowTold}
use Rattle.kd_spreadsheet.proofs.FoundDays.{days_with_blank}
use Rattle.kd_spreadsheet.proofs.notes.push_body_row.Goals as goal

pub returns-then-is_blank_row : goal.returns-then-is_blank_row
returns-then-is_blank_row c =
    let blank = rw c.columns.ensures at c.is_blank_row.ensures in (
      [],
      sym (append-nil c.args.note.now.items),
      λ numbers rows text due read. record {
        told = rw (append-nil text) (BlankTold rows text (fields_of c.args.row.now) read.told
            (sym blank ∙ c.if-is_blank_row.true));
        days = days_with_blank c.args.head.now.columns numbers rows (fields_of c.args.row.now) c.args.found.now.rows
            (sym blank ∙ c.if-is_blank_row.true) read.days;
      },
    )

pub returns : goal.returns
returns c =
    let filled = rw c.columns.ensures at c.is_blank_row.ensures in
    IfOk-weaker c.push_row.result _ _ (λ done pushed. (
      pushed.0,
      pushed.1,
      λ numbers rows text due read.
          let of_row = pushed.2 numbers rows due read.days in
          record {
            told = RowTold rows text (fields_of c.args.row.now) c.args.number pushed.0 read.told
                (sym filled ∙ c.if-is_blank_row.false) due of_row.0;
            days = of_row.1;
          },
    ))
    c.push_row.ensures
