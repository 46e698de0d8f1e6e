use Rattle.std.proofs.Common.{length}
use Rattle.kd_spreadsheet.proofs.notes.row_note.+push_cells.Given as goal

abbrev pub decreases-push_cells : goal.decreases-push_cells
decreases-push_cells l = length l.cells.now
