use Rattle.std.proofs.Common.{length}
use Rattle.kd_look.proofs.sheet_words.+push_models.Given as goal

abbrev pub decreases-push_models : goal.decreases-push_models
decreases-push_models l = length l.models.now
