use Rattle.kd_message.proofs.ReadAgain.{whole_read}
use Rattle.kd_message.proofs.laws.whole_messages_are_read.Goals as goal

pub returns : goal.returns
returns c = whole_read
