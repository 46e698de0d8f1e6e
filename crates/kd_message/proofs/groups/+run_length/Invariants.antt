use Rattle.std.proofs.Common.{length}
use Rattle.kd_message.proofs.groups.+run_length.Given as goal

abbrev pub decreases-run_length : goal.decreases-run_length
decreases-run_length l = length l.letters.now
