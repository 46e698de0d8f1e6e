use Rattle.std.proofs.Common.{arith}
use Rattle.std.proofs.lemmas.Grind.{common_steps}
use Rattle.kd_card.proofs.card_writer.+push_settings.Goals as goal

pub returns-in_default-clause-bytes : goal.returns-in_default-clause-bytes
returns-in_default-clause-bytes g t c = grind (arith, common_steps)

pub returns-in-len1-up-clause-bytes : goal.returns-in-len1-up-clause-bytes
returns-in-len1-up-clause-bytes g t c = grind (arith, common_steps)

pub returns-in-len1-up-clause-in_range : goal.returns-in-len1-up-clause-in_range
returns-in-len1-up-clause-in_range g t c = grind (arith, common_steps)
