use Rattle.std.proofs.Common.{◌≡◌, ◌++◌}
use Rattle.std.specs.{List.{flat_map, range_with_len}, String.{string_bytes}}
use Rattle.kd_look.specs.MachineWords.{thing_words}
use Rattle.kd_look.proofs.machine_words.push_things.Given as goal

abbrev pub invariant-loop-index : goal.invariant-loop-index
invariant-loop-index l = string_bytes l.text
    ≡ string_bytes l.initial.text ++ flat_map (thing_words l.language l.machine l.thing) (range_with_len 1 l.index)
