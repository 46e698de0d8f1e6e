use Rattle.kd_look.proofs.message.order_head.+head_end.Given as goal

abbrev pub decreases-head_end : goal.decreases-head_end
decreases-head_end l = l.left
