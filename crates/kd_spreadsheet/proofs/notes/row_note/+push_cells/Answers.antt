use Rattle.std.proofs.Common.{arith}
use Rattle.std.proofs.lemmas.Grind.{common_steps}
use Rattle.std.proofs.lemmas.Result.{IfOk-weaker}
use Rattle.kd_spreadsheet.proofs.Noting.{cell_first, no_cells}
use Rattle.kd_spreadsheet.proofs.notes.row_note.+push_cells.Goals as goal

pub returns-in-len1-up : goal.returns-in-len1-up
returns-in-len1-up t c =
    let head = c.args.head.now in
    let row = c.args.row.now in
    IfOk-weaker c.push_cells.result _ _ (λ done rest. cell_first head.language head.options head.columns head.names row.place row.cells
    row.earlier _ _ _ _ _ _ (grind (arith, common_steps)) c.in_ok-push_cell.ensures rest)
    c.push_cells.ensures

pub returns : goal.returns
returns t c =
    let head = c.args.head.now in
    let row = c.args.row.now in
    no_cells head.language head.options head.columns head.names row.place row.cells row.earlier c.args.cells.now c.args.note.now.items
    (grind (arith, common_steps))
