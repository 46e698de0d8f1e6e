use Rattle.kd_state.proofs.Prelude.{AreLetters, AllWithin}
use Rattle.kd_state.proofs.prover_facts.learn_group_letters.Given as goal

abbrev pub invariant-loop-group : goal.invariant-loop-group
invariant-loop-group l = AllWithin (AreLetters 3) l.groups 0 l.group-index
