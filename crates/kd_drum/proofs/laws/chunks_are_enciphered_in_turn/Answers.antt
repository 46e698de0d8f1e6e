use Rattle.kd_drum.proofs.WheelsAfterLetters.{key_in_turn}
use Rattle.kd_drum.proofs.laws.chunks_are_enciphered_in_turn.Goals as goal

pub returns-clause-after : goal.returns-clause-after
returns-clause-after c = key_in_turn
