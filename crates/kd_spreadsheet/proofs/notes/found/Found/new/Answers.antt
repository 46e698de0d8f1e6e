use Rattle.kd_spreadsheet.proofs.FoundDays.{no_days}
use Rattle.kd_spreadsheet.proofs.notes.found.Found.new.Goals as goal

pub returns : goal.returns
returns c = no_days
