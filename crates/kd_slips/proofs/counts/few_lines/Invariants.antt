use Rattle.std.proofs.Common.{◌≡◌, take}
use Rattle.std.specs.{List.{flat_map}, String.{string_bytes}}
use Rattle.kd_slips.specs.Counts.{day_lines}
use Rattle.kd_slips.proofs.counts.few_lines.Given as goal

-- the lines on the days so far
abbrev pub invariant-loop-day : goal.invariant-loop-day
invariant-loop-day l = string_bytes l.lines
    ≡ flat_map (day_lines l.wording.language l.start l.days) (take l.day-index l.days)
