use Rattle.std.proofs.Common.{◌≡◌}
use Rattle.std.specs.List.{filter, range_with_len}
use Rattle.kd_look.specs.GroupDays.{is_day_with, search_of}
use Rattle.kd_look.proofs.group_days.days_with.Given as goal

-- the days so far that have the group
abbrev pub invariant-loop-index : goal.invariant-loop-index
invariant-loop-index l =
    l.days.items ≡ filter (is_day_with (search_of l.search) l.group) (range_with_len 1 l.index)
