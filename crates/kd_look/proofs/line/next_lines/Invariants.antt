use Rattle.std.proofs.Common.{◌≡◌, ℕ, Option, map, take}
use Rattle.toml.specs.View.{table_view}
use Rattle.kd_findings.specs.declared.findings.Finding.{Finding}
use Rattle.kd_look.specs.Line.{line_in, or_line}
use Rattle.kd_look.proofs.line.next_lines.Given as goal

-- `next` has the lines of the first findings
abbrev pub invariant-loop-index : goal.invariant-loop-index
invariant-loop-index l = (before : Finding → Option ℕ) → l.lines ≡ map before l.findings
    → l.next.items
    ≡ map (λ finding. or_line (before finding) (line_in (table_view l.document) l.line finding)) (take l.index l.findings)
