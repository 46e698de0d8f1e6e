use Rattle.std.proofs.Common.{◌≡◌, None, map, take}
use Rattle.kd_look.proofs.line.no_lines.Given as goal

-- `lines` has nothing for each of the first findings
abbrev pub invariant-loop-finding : goal.invariant-loop-finding
invariant-loop-finding l = l.lines.items ≡ map (λ finding. None) (take l.finding-index l.findings)
