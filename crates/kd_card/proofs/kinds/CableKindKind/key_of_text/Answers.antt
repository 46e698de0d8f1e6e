use Rattle.std.proofs.Common.{arith}
use Rattle.std.proofs.lemmas.Grind.{common_steps}
use Rattle.kd_card.proofs.kinds.CableKindKind.key_of_text.Goals as goal

pub returns-in_ok-from_byte-in-len1 : goal.returns-in_ok-from_byte-in-len1
returns-in_ok-from_byte-in-len1 c = grind (arith, common_steps)

pub returns-in-45 : goal.returns-in-45
returns-in-45 c = grind (arith, common_steps)
