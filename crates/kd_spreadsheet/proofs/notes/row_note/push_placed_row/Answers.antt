use Rattle.std.proofs.Common.{◌≡◌, arith}
use Rattle.std.proofs.lemmas.Grind.{common_steps}
use Rattle.std.proofs.lemmas.Result.{IfOk-weaker}
use Rattle.kd_spreadsheet.proofs.Noting.{placed_told}
use Rattle.kd_spreadsheet.proofs.notes.row_note.push_placed_row.Goals as goal

pub returns : goal.returns
returns c =
    let head = c.args.head.now in
    let row = c.args.row.now in
    let untold = rw c.cells.ensures at c.is_untold-is_due.ensures in
    IfOk-weaker c.push_due_words.result _ _ (λ done told. placed_told head.language head.options head.columns head.names
    row.place row.cells row.earlier _ _ _ c.is_untold-is_due.result c.in_ok-push_row_cells.ensures told
    (λ none has same. let still : c.len.result ≡ c.len-start.result = grind (arith, common_steps) in
    untold none has still))
    (rw c.place.ensures at c.push_due_words.ensures)
