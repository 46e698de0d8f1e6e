use Rattle.kd_state.proofs.Prelude.{cable_cost, columns_of, costs_by, length, ◌≡◌, take}
use Rattle.kd_state.proofs.costs.tables.cable_costs.Given as goal

abbrev pub invariant-loop-row : goal.invariant-loop-row
invariant-loop-row l =
    record {
      size : length l.costs ≡ 13;
      done : take l.row l.costs ≡ costs_by cable_cost (take l.row l.cables) (columns_of l.pairs);
    }
