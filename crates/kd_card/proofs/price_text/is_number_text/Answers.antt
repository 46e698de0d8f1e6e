use Rattle.std.proofs.Common.{arith}
use Rattle.std.proofs.lemmas.Grind.{common_steps}
use Rattle.kd_card.proofs.price_text.is_number_text.Goals as goal

pub returns-in-48 : goal.returns-in-48
returns-in-48 c = grind (arith, common_steps)

pub returns-then-matches : goal.returns-then-matches
returns-then-matches c = grind (arith, common_steps)
