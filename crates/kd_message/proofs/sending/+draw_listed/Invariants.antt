use Rattle.kd_message.proofs.sending.+draw_listed.Given as goal

abbrev pub decreases-draw_listed : goal.decreases-draw_listed
decreases-draw_listed g l = l.count
