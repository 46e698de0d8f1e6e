use Rattle.kd_message.proofs.PagesWhole.{whole_on_page}
use Rattle.kd_message.proofs.laws.whole_messages_are_on_the_page.Goals as goal

pub returns : goal.returns
returns c = whole_on_page
