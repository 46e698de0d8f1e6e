use Rattle.std.proofs.Common.{length}
use Rattle.kd_sheet.proofs.writing.lines.+push_more_items.Given as goal

abbrev pub decreases-push_more_items : goal.decreases-push_more_items
decreases-push_more_items g l = length l.items.now
