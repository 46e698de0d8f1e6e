use Rattle.std.proofs.Common.{length}
use Rattle.kd_message.proofs.receiving.+has_lone.Given as goal

abbrev pub decreases-has_lone : goal.decreases-has_lone
decreases-has_lone l = length l.parts.now
