use Rattle.kd_spreadsheet.proofs.near_names.+near_from.Given as goal

abbrev pub decreases-near_from : goal.decreases-near_from
decreases-near_from l = l.count
