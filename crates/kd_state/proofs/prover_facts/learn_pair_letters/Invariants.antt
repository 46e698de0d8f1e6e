use Rattle.kd_state.proofs.Prelude.{letters_in_pairs, All, ◌<◌, take}
use Rattle.kd_state.proofs.prover_facts.learn_pair_letters.Given as goal

abbrev pub invariant-loop-one : goal.invariant-loop-one
invariant-loop-one l = All (λ letter. letter < 26) (letters_in_pairs (take l.one-index l.pairs))
