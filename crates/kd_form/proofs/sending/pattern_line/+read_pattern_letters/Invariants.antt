use Rattle.kd_form.proofs.Prelude.{length}
use Rattle.kd_form.proofs.sending.pattern_line.+read_pattern_letters.Given as goal

abbrev pub decreases-read_pattern_letters : goal.decreases-read_pattern_letters
decreases-read_pattern_letters l = length l.pattern.now
