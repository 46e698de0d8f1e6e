use Rattle.kd_message.proofs.receiving.+draw_numbers.Given as goal

abbrev pub decreases-draw_numbers : goal.decreases-draw_numbers
decreases-draw_numbers g l = l.count
