use Rattle.kd_state.proofs.Prelude.{cable_of_column, columns_of, length, map, ◌≡◌, take}
use Rattle.kd_state.proofs.machine.on_key.cables_of.Given as goal

abbrev pub invariant-loop-place : goal.invariant-loop-place
invariant-loop-place l = record {
  size : length l.cables ≡ 13;
  done : take l.place l.cables ≡ map cable_of_column (take l.place (columns_of l.pairs));
}
