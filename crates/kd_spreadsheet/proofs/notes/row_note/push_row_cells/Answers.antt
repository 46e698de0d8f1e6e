use Rattle.std.proofs.Common.{◌∷◌, ap, refl, sym}
use Rattle.std.proofs.lemmas.Result.{IfOk-weaker}
use Rattle.kd_spreadsheet.specs.declared.cell.Cell.TheVariants as cells
use Rattle.kd_spreadsheet.proofs.Noting.{cell_first}
use Rattle.kd_spreadsheet.proofs.notes.row_note.push_row_cells.Goals as goal

pub returns : goal.returns
returns c =
    let head = c.args.head.now in
    let row = c.args.row.now in
    let first = cell_first head.language head.options head.columns head.names row.place row.cells row.earlier in
    let known = c.cells_of_row-known in
    IfOk-weaker c.push_cells.result _ _ (λ done rest.
    first cells.Day (cells.Model ∷ known.result.now) _ _ _ _
    (ap (λ cells_known. cells.Day ∷ cells.Model ∷ cells_known) (sym known.ensures)) c.in_ok-push_cell.ensures
    (first cells.Model known.result.now _ _ _ _ refl c.in_ok-push_cell-2.ensures rest))
    c.push_cells.ensures
