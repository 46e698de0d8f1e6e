use Rattle.kd_state.proofs.Prelude.{cable_cost, columns_of, length, map, ◌≡◌, take}
use Rattle.kd_state.proofs.costs.tables.costs_of_cable.Given as goal

abbrev pub invariant-loop-column : goal.invariant-loop-column
invariant-loop-column l = record {
  size : length l.costs ≡ 13;
  done : take l.column l.costs ≡ map (cable_cost l.cable) (take l.column (columns_of l.pairs));
}
