use Rattle.std.proofs.Common.{length}
use Rattle.kd_spreadsheet.proofs.notes.note.+push_lines.Given as goal

abbrev pub decreases-push_lines : goal.decreases-push_lines
decreases-push_lines l = length l.words.now
