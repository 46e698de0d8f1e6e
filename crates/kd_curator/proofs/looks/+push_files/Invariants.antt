use Rattle.std.proofs.Common.{length}
use Rattle.kd_curator.proofs.looks.+push_files.Given as goal

abbrev pub decreases-push_files : goal.decreases-push_files
decreases-push_files l = length l.names.now
