use Rattle.std.proofs.Common.{map}
use Rattle.std.specs.List.{flat_map, range_with_len}
use Rattle.kd_pictures.specs.Drawing.{Draws}
use Rattle.kd_typing.specs.PinTable.{pin_row}
use Rattle.kd_typing.specs.TableText.{row_line}
use Rattle.kd_typing.proofs.pin_rows.PinRows.draw_rows.Given as goal

abbrev pub invariant-loop-number : goal.invariant-loop-number
invariant-loop-number g l =
    Draws g.W.Sink.taken g.W.Sink.has_failed l.fn.sink l.sink
    (flat_map row_line (map (pin_row l.fn.self) (range_with_len 0 l.number)))
