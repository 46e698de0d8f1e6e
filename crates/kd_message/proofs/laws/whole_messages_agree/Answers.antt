use Rattle.kd_message.proofs.PagesWhole.{one_total, repetition_letters}
use Rattle.kd_message.proofs.laws.whole_messages_agree.Goals as goal

pub returns : goal.returns
returns c = record { total = one_total; repetitions = repetition_letters }
