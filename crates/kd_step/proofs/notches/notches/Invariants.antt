use Rattle.{std.proofs.Common.{◌≡◌, ℕ, ◌<◌, false, length, slice_index_or}, kd_tables.specs.Tables.is_notch}
use Rattle.kd_step.proofs.notches.notches.Given as goal

abbrev pub invariant-loop-index : goal.invariant-loop-index
invariant-loop-index l = record {
  size : length l.notches ≡ 26;
  each : (letter : ℕ) → letter < l.index → slice_index_or l.notches letter false ≡ is_notch l.wheel letter;
}
