use Rattle.std.proofs.Common.{◌≡◌, ◌<◌, ℕ, length, slice_index}
use Rattle.kd_enigma.specs.Rotor.{rotor}
use Rattle.kd_typing.proofs.around.inward.Given as goal

abbrev pub invariant-loop-key : goal.invariant-loop-key
invariant-loop-key l = record {
  size : length l.row ≡ 26;
  each : (k : ℕ) → k < l.key
      → slice_index l.row k ≡ slice_index (rotor l.fn.seated.wheel l.fn.seated.ring l.fn.letter) (slice_index l.plugs k);
}
