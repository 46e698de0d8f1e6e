use Rattle.kd_form.proofs.Prelude.{◌≡◌, ◌++◌, replicate}
use Rattle.kd_form.proofs.sending.part.fill_last_group.Given as goal

abbrev pub invariant-loop : goal.invariant-loop
invariant-loop l = l.letters.items ≡ l.text ++ replicate l.counter l.filler
