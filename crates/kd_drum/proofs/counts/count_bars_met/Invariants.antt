use Rattle.{std.proofs.Common.{◌≡◌, ℕ, ◌<◌, length, slice_index}, kd_drum.specs.Counts.bars_met_by}
use Rattle.kd_drum.proofs.counts.count_bars_met.Given as goal

abbrev pub invariant-loop-wheels : goal.invariant-loop-wheels
invariant-loop-wheels l = record {
  size : length l.counts ≡ 64;
  each : (k : ℕ) → k < l.wheels → slice_index l.counts k ≡ bars_met_by l.bars k;
}
