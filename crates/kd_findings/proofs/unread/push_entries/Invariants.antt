use Rattle.std.proofs.Common.{◌≡◌, ◌++◌, [], map}
use Rattle.std.specs.List.{flat_map, range_with_len}
use Rattle.std.specs.Option.{option_map_or}
use Rattle.toml.specs.View.{view}
use Rattle.kd_state.specs.SameParts.{numbered_item}
use Rattle.kd_findings.specs.Unread.{unread_in_entry, unread_of}
use Rattle.kd_findings.proofs.unread.push_entries.Given as goal

-- the list has the keys of the entries so far
abbrev pub invariant-loop-index : goal.invariant-loop-index
invariant-loop-index l = unread_of l.list.items ≡ unread_of l.initial.list.items
    ++ flat_map (λ number. option_map_or (unread_in_entry number) (numbered_item (map view l.items) number) [])
    (range_with_len 1 l.index)
