use Rattle.std.proofs.Common.{length}
use Rattle.kd_printed_sheet.proofs.key_list.+draw_key_lists.Given as goal

abbrev pub decreases-draw_key_lists : goal.decreases-draw_key_lists
decreases-draw_key_lists g l = length l.numbers.now
