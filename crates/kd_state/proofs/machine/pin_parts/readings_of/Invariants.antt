use Rattle.kd_state.proofs.Prelude.{reading_of, length, map, ◌≡◌, take}
use Rattle.kd_state.proofs.machine.pin_parts.readings_of.Given as goal

abbrev pub invariant-loop-bar : goal.invariant-loop-bar
invariant-loop-bar l = record {
  size : length l.readings ≡ 27;
  done : take l.bar l.readings ≡ map reading_of (take l.bar l.bars);
}
