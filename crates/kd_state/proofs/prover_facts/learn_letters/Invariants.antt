use Rattle.kd_state.proofs.Prelude.{AllWithin, ◌<◌}
use Rattle.kd_state.proofs.prover_facts.learn_letters.Given as goal

abbrev pub invariant-loop-letter : goal.invariant-loop-letter
invariant-loop-letter l = AllWithin (λ letter. letter < 26) l.letters 0 l.letter-index
