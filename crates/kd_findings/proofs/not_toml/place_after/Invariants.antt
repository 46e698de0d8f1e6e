use Rattle.std.proofs.Common.{◌≡◌, ◌≤◌, ◌+◌, ◌==◌, count_by, reverse, take}
use Rattle.kd_findings.specs.NotToml.{characters_to_feed}
use Rattle.kd_findings.proofs.not_toml.place_after.Given as goal

-- `line` and `column` are of the place after the bytes so far
abbrev pub invariant-loop-byte : goal.invariant-loop-byte
invariant-loop-byte l = record {
  line : l.line ≡ count_by (λ byte. byte == 10) (take l.byte-index l.before) + 1;
  column : l.column ≡ characters_to_feed (reverse (take l.byte-index l.before)) + 1;
  few_lines : l.line ≤ l.byte-index + 1;
  few_characters : l.column ≤ l.byte-index + 1;
}
