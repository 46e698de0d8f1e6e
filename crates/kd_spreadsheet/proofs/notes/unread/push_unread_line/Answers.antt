use Rattle.std.proofs.Common.{◌++◌, ◌∙◌, Some, ap, sym}
use Rattle.std.proofs.lemmas.Result.{IfOk-weaker}
use Rattle.csv.specs.Records.{fields_of}
use Rattle.kd_language.specs.Language.{text_in}
use Rattle.kd_spreadsheet.specs.Columns.{cell_at}
use Rattle.kd_spreadsheet.specs.Notes.{shown}
use Rattle.kd_spreadsheet.specs.declared.texts.TheConstants.{UNREAD_COLUMN}
use Rattle.kd_spreadsheet.proofs.Noting.{one_value, three_parts, unread_is}
use Rattle.kd_spreadsheet.proofs.notes.unread.push_unread_line.Goals as goal

pub returns : goal.returns
returns c =
    let l = c.args.language in
    let head = fields_of c.args.head.now in
    let filled = rw c.cell_at-name.ensures at (sym c.is_blank.ensures ∙ c.if-is_blank.false) in
    let unread = rw c.requires at (sym c.is_column_read.ensures ∙ c.if-is_column_read.false) in
    let before = rw (c.as_bytes.ensures.value, c.cut.ensures.before, c.text.ensures) at c.in_ok-push_bytes.ensures in
    let after = rw (c.as_bytes-2.ensures.value, c.cut.ensures.after, c.text.ensures) at c.push_bytes-2.ensures in
    let name = rw c.cell_at-name.ensures at c.in_ok-push_shown.ensures in
    let line = one_value (text_in l UNREAD_COLUMN) (shown (cell_at (Some c.args.place) head)) in
    IfOk-weaker c.push_bytes-2.result _ _ (λ done last.
    three_parts _ _ _ _ _ _ _ before name last
    ∙ ap (λ t. c.args.note.now.items ++ t) (sym line ∙ sym (unread_is l head c.args.place filled unread)))
    after
