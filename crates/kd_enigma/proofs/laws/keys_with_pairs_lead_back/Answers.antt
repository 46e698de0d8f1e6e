use Rattle.kd_enigma.proofs.Ciphers.{paired_paths_lead_back, paired_keys_give_back}
use Rattle.kd_enigma.proofs.laws.keys_with_pairs_lead_back.Goals as goal

pub returns : goal.returns
returns c = record { path = paired_paths_lead_back; cipher = paired_keys_give_back }
