use Rattle.std.proofs.Common.{◌≡◌, ◌++◌}
use Rattle.std.specs.List.{flat_map, range_with_len}
use Rattle.kd_look.specs.Groups.{next_group, part_group}
use Rattle.kd_look.proofs.message.groups.rotor_form_groups.Given as goal

-- the first group, and the groups of the parts whose headings follow a line end before the index
abbrev pub invariant-loop-index : goal.invariant-loop-index
invariant-loop-index l =
    l.groups.items ≡ part_group l.text 0 ++ flat_map (next_group l.text) (range_with_len 0 l.index)
