use Rattle.std.proofs.Common.{append_assoc, arith}
use Rattle.std.proofs.lemmas.Grind.{common_steps}
use Rattle.kd_look.proofs.machine_words.push_reflector.Goals as goal
unfoldable use Rattle.kd_look.specs.MachineWords.{reflector_words}

pub returns-in_default : goal.returns-in_default
unfolding reflector_words
returns-in_default c = grind (arith, common_steps)

pub returns : goal.returns
unfolding reflector_words
returns c = grind (arith, append_assoc)
