use Rattle.std.proofs.Common.{length}
use Rattle.kd_spreadsheet.proofs.items.+push_item_text.Given as goal

abbrev pub decreases-push_item_text : goal.decreases-push_item_text
decreases-push_item_text l = length l.cell.now
