use Rattle.std.proofs.Common.{◌≡◌, ◌++◌}
use Rattle.toml.specs.View.{members_view, table_view}
use Rattle.kd_findings.specs.Unread.{unread_in, unread_of}
use Rattle.kd_findings.proofs.unread.push_unread.Given as goal

-- the list has the keys of the members so far
abbrev pub invariant-members : goal.invariant-members
invariant-members l = unread_of l.list.items ++ unread_in l.entry l.day l.keys (members_view l.key-iterator)
    ≡ unread_of l.initial.list.items ++ unread_in l.entry l.day l.keys (table_view l.table)
