use Rattle.std.proofs.Common.{length}
use Rattle.kd_card.proofs.card_writer.+push_settings.Given as goal

abbrev pub decreases-push_settings : goal.decreases-push_settings
decreases-push_settings g l = length l.settings.now
