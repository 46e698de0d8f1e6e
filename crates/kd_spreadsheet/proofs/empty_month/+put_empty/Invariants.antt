use Rattle.kd_spreadsheet.proofs.empty_month.+put_empty.Given as goal

abbrev pub decreases-put_empty : goal.decreases-put_empty
decreases-put_empty g l = l.count
