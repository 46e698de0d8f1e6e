use Rattle.std.proofs.Common.{length}
use Rattle.kd_spreadsheet.proofs.notes.cell_words.+off_wheels_words.Given as goal

abbrev pub decreases-off_wheels_words : goal.decreases-off_wheels_words
decreases-off_wheels_words l = length l.letters.now
