use Rattle.kd_state.proofs.Prelude.{letters_in_cables, All, ◌<◌, take}
use Rattle.kd_state.proofs.prover_facts.learn_cable_letters.Given as goal

abbrev pub invariant-loop-cable : goal.invariant-loop-cable
invariant-loop-cable l = All (λ letter. letter < 26) (letters_in_cables (take l.cable-index l.cables))
