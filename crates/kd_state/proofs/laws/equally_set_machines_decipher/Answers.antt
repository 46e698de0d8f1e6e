use Rattle.kd_state.proofs.Keys.{equally_set, twice_on_key}
use Rattle.kd_state.proofs.laws.equally_set_machines_decipher.Goals as goal

pub returns : goal.returns
returns c = record { another = equally_set; itself = twice_on_key }
