use Rattle.std.proofs.Common.{◌-◌, length, map}
use Rattle.std.specs.List.{flat_map, range_with_len}
use Rattle.kd_pictures.specs.Drawing.{Draws}
use Rattle.kd_typing.specs.RotorTable.{core_row, letters_with_number}
use Rattle.kd_typing.specs.TableText.{row_line}
use Rattle.kd_typing.proofs.rotor_rows.RotorRows.draw_core.Given as goal

abbrev pub invariant-loop-number : goal.invariant-loop-number
invariant-loop-number g l =
    Draws g.W.Sink.taken g.W.Sink.has_failed l.fn.sink l.sink
    (flat_map row_line (map (λ n. core_row l.fn.self (letters_with_number (length l.fn.self.wheels - 1) n))
    (range_with_len 0 l.number)))
