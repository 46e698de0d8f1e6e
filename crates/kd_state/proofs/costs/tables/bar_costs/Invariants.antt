use Rattle.kd_state.proofs.Prelude.{bar_cost, costs_by, length, ◌≡◌, take}
use Rattle.kd_state.proofs.costs.tables.bar_costs.Given as goal

abbrev pub invariant-loop-bar : goal.invariant-loop-bar
invariant-loop-bar l =
    record { size : length l.costs ≡ 27; done : take l.bar l.costs ≡ costs_by bar_cost (take l.bar l.bars) l.rows }
