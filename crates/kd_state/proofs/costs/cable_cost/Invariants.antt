use Rattle.kd_state.proofs.Prelude.{alphabet, cable_letters, column_letters, count_by}
use Rattle.kd_state.proofs.Prelude.{exactly_one, has_letter, ◌≡◌, take}
use Rattle.kd_state.proofs.costs.cable_cost.Given as goal

abbrev pub invariant-loop-index : goal.invariant-loop-index
invariant-loop-index l = l.cost
    ≡ count_by (λ x. exactly_one (has_letter (cable_letters l.cable) x) (has_letter (column_letters l.column) x))
    (take l.index alphabet)
