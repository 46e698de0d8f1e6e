use Rattle.std.proofs.Common.{◌≡◌, ◌<◌, ℕ, length, slice_index}
use Rattle.kd_typing.specs.Around.{around_one}
use Rattle.kd_typing.proofs.around.around_one.Given as goal

abbrev pub invariant-loop-place : goal.invariant-loop-place
invariant-loop-place l = record {
  size : length l.row ≡ 26;
  each : (k : ℕ) → k < l.place → slice_index l.row k ≡ slice_index (around_one l.core l.fn.seated l.fn.letter) k;
}
