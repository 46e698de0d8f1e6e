use Rattle.kd_card.proofs.OneCard.{length, HasRead}
use Rattle.kd_card.proofs.kind_text.read_kinds.Given as goal

abbrev pub invariant-kind : goal.invariant-kind
invariant-kind g l = HasRead g.K.Kind.format g.row.N l.line l.text l.rest l.last l.number l.at l.kinds.items

abbrev pub decreases-kind : goal.decreases-kind
decreases-kind g l = length l.rest
