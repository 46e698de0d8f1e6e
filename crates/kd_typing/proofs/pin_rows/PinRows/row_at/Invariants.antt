use Rattle.std.proofs.Common.{length, slice_index, ℕ, ◌%◌, ◌+◌, ◌-◌, ◌<◌, ◌≡◌}
use Rattle.kd_typing.proofs.pin_rows.PinRows.row_at.Given as goal

abbrev pub invariant-loop-letter : goal.invariant-loop-letter
invariant-loop-letter l = record {
  size : length l.row ≡ 26;
  each : (k : ℕ) → k < l.letter → slice_index l.row k ≡ (25 + l.met - k) % 26;
}
