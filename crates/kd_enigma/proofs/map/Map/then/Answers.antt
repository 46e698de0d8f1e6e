use Rattle.kd_enigma.proofs.Maps.{followed_by_has_lanes}
use Rattle.kd_enigma.proofs.map.Map.then.Goals as goal

pub invariant_of-result : goal.invariant_of-result
invariant_of-result c =
    followed_by_has_lanes c.self.inside.lanes c.second.inside.lanes c.self.invariant c.second.invariant
