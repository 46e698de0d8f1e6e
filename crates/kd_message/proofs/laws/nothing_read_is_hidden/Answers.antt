use Rattle.kd_message.proofs.PagesWhole.{nothing_hidden}
use Rattle.kd_message.proofs.laws.nothing_read_is_hidden.Goals as goal

pub returns : goal.returns
returns c = nothing_hidden
