use Rattle.std.proofs.Common.{length}
use Rattle.kd_curator.proofs.run_list.+put_lines.Given as goal

abbrev pub decreases-put_lines : goal.decreases-put_lines
decreases-put_lines g l = length l.settings.now
