use Rattle.std.proofs.Common.{◌≡◌, ◌++◌, map, take}
use Rattle.std.specs.List.{flat_map}
use Rattle.std.specs.String.{string_bytes}
use Rattle.toml.specs.View.{view}
use Rattle.kd_findings.specs.Warnings.{cable_line}
use Rattle.kd_findings.proofs.warnings.push_cables.Given as goal

-- the warnings of the cables so far are appended
abbrev pub invariant-loop-item : goal.invariant-loop-item
invariant-loop-item l = string_bytes l.lines
    ≡ string_bytes l.initial.lines
    ++ flat_map (cable_line l.wording.language l.name) (map view (take l.item-index l.items))
