use Rattle.kd_state.proofs.Prelude.{letters_in_cables, has_letter, drop, ◌≡◌}
use Rattle.kd_state.proofs.machine.cable.lies_in_any.Given as goal

abbrev pub invariant-loop-cable : goal.invariant-loop-cable
invariant-loop-cable l =
    has_letter (letters_in_cables (drop l.cable-index l.cables)) l.letter
    ≡ has_letter (letters_in_cables l.cables) l.letter
