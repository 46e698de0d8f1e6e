use Rattle.kd_state.proofs.Prelude.{bar_cost, length, map, ◌≡◌, take}
use Rattle.kd_state.proofs.costs.tables.costs_of_bar.Given as goal

abbrev pub invariant-loop-row : goal.invariant-loop-row
invariant-loop-row l =
    record { size : length l.costs ≡ 27; done : take l.row l.costs ≡ map (bar_cost l.bar) (take l.row l.rows) }
