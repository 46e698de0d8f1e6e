use Rattle.std.proofs.Common.{arith}
use Rattle.std.proofs.lemmas.Grind.{common_steps}
use Rattle.kd_card.proofs.kinds.+are_kinds.Goals as goal

pub returns-in-empty-clause-value : goal.returns-in-empty-clause-value
returns-in-empty-clause-value g t c = grind (arith, common_steps)

pub returns-then-count-number-clause-value : goal.returns-then-count-number-clause-value
returns-then-count-number-clause-value g t c = grind (arith, common_steps)
