use Rattle.std.proofs.Common.{length}
use Rattle.kd_spreadsheet.proofs.notes.note.+push_shown_bytes.Given as goal

abbrev pub decreases-push_shown_bytes : goal.decreases-push_shown_bytes
decreases-push_shown_bytes l = length l.bytes.now
