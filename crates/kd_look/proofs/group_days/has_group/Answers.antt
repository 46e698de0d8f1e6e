use Rattle.kd_look.proofs.Reordered.{has_group_tells}
use Rattle.kd_look.proofs.group_days.has_group.Goals as goal

pub returns : goal.returns
returns c = record {
  value = has_group_tells c.args.letters c.args.day.now c.has_group.result c.has_group.ensures;
  any_order = c.has_group.ensures;
}
