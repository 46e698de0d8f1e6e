use Rattle.kd_message.proofs.ReceivedRows.{rows_are_deciphered}
use Rattle.kd_message.proofs.laws.rows_are_deciphered.Goals as goal

pub returns : goal.returns
returns c = rows_are_deciphered
