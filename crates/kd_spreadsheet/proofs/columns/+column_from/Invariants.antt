use Rattle.kd_spreadsheet.proofs.columns.+column_from.Given as goal

abbrev pub decreases-column_from : goal.decreases-column_from
decreases-column_from l = l.count
