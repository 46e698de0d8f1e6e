use Rattle.kd_state.proofs.Prelude.{Decides-eqb, nat_cmp_total, nat_eq, nat_tests, arith}
use Rattle.kd_state.proofs.SortedAlike.{pairs_tell}
use Rattle.kd_state.proofs.machine.on_key.are_same_readings.Goals as goal

pub returns : goal.returns
returns c =
    pairs_tell nat_cmp_total nat_eq (λ x y. grind (arith, nat_tests)) Decides-eqb c.args.readings c.args.rows _ _ _
    c.sort_unstable.ensures.permutation c.sort_unstable-2.ensures.permutation c.sort_unstable.ensures.sorted
    c.sort_unstable-2.ensures.sorted c.eq.ensures
