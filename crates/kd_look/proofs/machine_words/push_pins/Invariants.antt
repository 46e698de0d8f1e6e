use Rattle.std.proofs.Common.{◌≡◌, ◌++◌}
use Rattle.std.specs.{List.{flat_map, range_with_len}, String.{string_bytes}}
use Rattle.kd_look.specs.MachineWords.{pin_words}
use Rattle.kd_look.proofs.machine_words.push_pins.Given as goal

abbrev pub invariant-loop-index : goal.invariant-loop-index
invariant-loop-index l = string_bytes l.text
    ≡ string_bytes l.initial.text ++ flat_map (pin_words l.machine l.wheel) (range_with_len 0 l.index)
