use Rattle.kd_lost.proofs.shown_parts.+are_whole.Given as goal

abbrev pub decreases-are_whole : goal.decreases-are_whole
decreases-are_whole l = l.count
