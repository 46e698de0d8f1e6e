use Rattle.kd_spreadsheet.proofs.notes.unread.+push_unread.Given as goal

abbrev pub decreases-push_unread : goal.decreases-push_unread
decreases-push_unread l = l.count
