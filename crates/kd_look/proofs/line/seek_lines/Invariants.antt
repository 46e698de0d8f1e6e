use Rattle.std.proofs.Common.{◌≡◌, map}
use Rattle.kd_findings.specs.NotToml.{line_at}
use Rattle.kd_look.specs.Line.{line_so_far}
use Rattle.kd_look.proofs.line.seek_lines.Given as goal

-- `line` is the line of the next byte, and `lines` has the lines that end before it
abbrev pub invariant-loop-index : goal.invariant-loop-index
invariant-loop-index l = record {
  number : l.line ≡ line_at l.text l.index;
  so_far : l.lines.items ≡ map (line_so_far l.text l.index) l.findings;
}
