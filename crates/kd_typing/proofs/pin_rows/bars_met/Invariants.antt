use Rattle.std.proofs.Common.{take, ◌≡◌}
use Rattle.kd_typing.specs.PinTable.{bars_met_in_row}
use Rattle.kd_typing.proofs.pin_rows.bars_met.Given as goal

abbrev pub invariant-loop-bar : goal.invariant-loop-bar
invariant-loop-bar l = l.met ≡ bars_met_in_row (take l.bar-index l.bars) l.number
