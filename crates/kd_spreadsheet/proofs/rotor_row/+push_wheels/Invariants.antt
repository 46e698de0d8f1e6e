use Rattle.std.proofs.Common.{length}
use Rattle.kd_spreadsheet.proofs.rotor_row.+push_wheels.Given as goal

abbrev pub decreases-push_wheels : goal.decreases-push_wheels
decreases-push_wheels l = length l.names.now
