use Rattle.kd_enigma.proofs.Cables.{pairs_exchange}
use Rattle.kd_enigma.proofs.laws.pairs_make_a_plugboard.Goals as goal

pub returns-clause-exchanged : goal.returns-clause-exchanged
returns-clause-exchanged c = pairs_exchange
