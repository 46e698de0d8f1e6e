use Rattle.std.proofs.Common.{◌≡◌, ◌++◌}
use Rattle.std.specs.{List.{flat_map, range_with_len}, String.{string_bytes}}
use Rattle.kd_look.specs.SheetWords.{numbered_day_words}
use Rattle.kd_look.proofs.sheet_words.push_sort.Given as goal

abbrev pub invariant-loop-index : goal.invariant-loop-index
invariant-loop-index l = string_bytes l.text ≡ string_bytes l.initial.text
    ++ flat_map (numbered_day_words l.language l.sheet l.title l.sort) (range_with_len 1 l.index)
