use Rattle.std.proofs.Common.{length}
use Rattle.kd_pictures.proofs.template.+fill.Given as goal

abbrev pub decreases-fill : goal.decreases-fill
decreases-fill g l = length l.values.now
