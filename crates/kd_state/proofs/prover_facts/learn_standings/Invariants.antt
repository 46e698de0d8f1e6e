use Rattle.kd_state.proofs.Prelude.{IsBefore, AllWithin}
use Rattle.kd_state.proofs.prover_facts.learn_standings.Given as goal

abbrev pub invariant-loop-bar : goal.invariant-loop-bar
invariant-loop-bar l = AllWithin (λ bar. IsBefore bar.0 bar.1) l.bars 0 l.bar-index
