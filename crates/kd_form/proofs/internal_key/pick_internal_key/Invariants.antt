use Rattle.kd_form.proofs.MadeParts.{IsPicking}
use Rattle.kd_form.proofs.internal_key.pick_internal_key.Given as goal

abbrev pub invariant-loop-letter : goal.invariant-loop-letter
invariant-loop-letter l = IsPicking l.letters l.letter-index l.key.items
