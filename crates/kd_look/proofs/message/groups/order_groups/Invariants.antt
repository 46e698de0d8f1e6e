use Rattle.std.proofs.Common.{◌≡◌}
use Rattle.std.specs.List.{flat_map, range_with_len}
use Rattle.kd_look.specs.Groups.{order_group}
use Rattle.kd_look.proofs.message.groups.order_groups.Given as goal

-- the groups whose fillers begin before the index
abbrev pub invariant-loop-index : goal.invariant-loop-index
invariant-loop-index l = l.groups.items ≡ flat_map (order_group l.text l.keys) (range_with_len 0 l.index)
