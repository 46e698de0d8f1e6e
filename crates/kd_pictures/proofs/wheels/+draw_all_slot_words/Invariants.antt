use Rattle.std.proofs.Common.{length}
use Rattle.kd_pictures.proofs.wheels.+draw_all_slot_words.Given as goal

abbrev pub decreases-draw_all_slot_words : goal.decreases-draw_all_slot_words
decreases-draw_all_slot_words g l = length l.slots.now
