use Rattle.std.proofs.Common.{length}
use Rattle.kd_spreadsheet.proofs.sheet_writer.+put_sections.Given as goal

abbrev pub decreases-put_sections : goal.decreases-put_sections
decreases-put_sections g l = length l.days.now
