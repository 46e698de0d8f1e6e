use Rattle.std.proofs.Common.{length}
use Rattle.kd_page.proofs.boxes.+slot_holding.Given as goal

abbrev pub decreases-slot_holding : goal.decreases-slot_holding
decreases-slot_holding l = length l.slots.now
