use Rattle.std.proofs.Common.{◌≡◌, map, take}
use Rattle.std.specs.{List.{flat_map}, String.{string_bytes}}
use Rattle.kd_look.specs.GroupDays.{message_lines}
use Rattle.kd_look.specs.MissingDays.{known_of}
use Rattle.kd_look.proofs.group_days.group_day_lines.Given as goal

-- the lines on the files so far
abbrev pub invariant-loop-file : goal.invariant-loop-file
invariant-loop-file l = string_bytes l.lines
    ≡ flat_map (message_lines l.wording.language (map known_of l.files)) (map known_of (take l.file-index l.files))
