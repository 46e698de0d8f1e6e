use Rattle.kd_look.proofs.KeyGroups.{key_groups_agree}
use Rattle.kd_look.proofs.laws.groups_of_orders_are_those_of_their_keys.Goals as goal

pub returns : goal.returns
returns c = record { groups = key_groups_agree }
