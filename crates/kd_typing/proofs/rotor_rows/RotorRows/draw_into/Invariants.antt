use Rattle.std.proofs.Common.{map}
use Rattle.std.specs.List.{flat_map, range_with_len}
use Rattle.kd_pictures.specs.Drawing.{Draws}
use Rattle.kd_typing.specs.RotorTable.{into_row}
use Rattle.kd_typing.specs.TableText.{row_line}
use Rattle.kd_typing.proofs.rotor_rows.RotorRows.draw_into.Given as goal

abbrev pub invariant-loop-letter : goal.invariant-loop-letter
invariant-loop-letter g l =
    Draws g.W.Sink.taken g.W.Sink.has_failed l.fn.sink l.sink
    (flat_map row_line (map (into_row l.fn.self) (range_with_len 0 l.letter)))
