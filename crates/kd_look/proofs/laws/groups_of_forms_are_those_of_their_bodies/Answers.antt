use Rattle.kd_look.proofs.BodyGroups.{body_groups_agree, no_groups_agree}
use Rattle.kd_look.proofs.laws.groups_of_forms_are_those_of_their_bodies.Goals as goal

pub returns : goal.returns
returns c = record { groups = body_groups_agree; none = no_groups_agree }
