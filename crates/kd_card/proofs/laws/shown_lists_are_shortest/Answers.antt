use Rattle.kd_card.proofs.Showing.{shown_lists_are_shortest}
use Rattle.kd_card.proofs.laws.shown_lists_are_shortest.Goals as goal

pub returns : goal.returns
returns c = shown_lists_are_shortest
