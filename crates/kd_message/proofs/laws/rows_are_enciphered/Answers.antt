use Rattle.kd_message.proofs.Chunks.{rows_are_enciphered}
use Rattle.kd_message.proofs.laws.rows_are_enciphered.Goals as goal

pub returns : goal.returns
returns c = rows_are_enciphered
