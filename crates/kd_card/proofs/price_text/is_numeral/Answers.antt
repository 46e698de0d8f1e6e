use Rattle.std.proofs.Common.{arith}
use Rattle.std.proofs.lemmas.Grind.{common_steps}
use Rattle.kd_card.proofs.price_text.is_numeral.Goals as goal

pub returns-in-45-2 : goal.returns-in-45-2
returns-in-45-2 c = grind (arith, common_steps)
