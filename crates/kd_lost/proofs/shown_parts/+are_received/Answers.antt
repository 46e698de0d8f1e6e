use Rattle.std.proofs.Common.{arith}
use Rattle.std.proofs.lemmas.Grind.{elements}
use Rattle.kd_lost.proofs.shown_parts.+are_received.Goals as goal

pub returns-then-is_some : goal.returns-then-is_some
returns-then-is_some t c = grind (arith, elements)

pub returns-else-is_some : goal.returns-else-is_some
returns-else-is_some t c = grind (arith, elements)
