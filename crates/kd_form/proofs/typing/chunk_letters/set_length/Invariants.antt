use Rattle.kd_form.proofs.Prelude.{◌-◌, ◌≤◌, array_vec_len}
use Rattle.kd_form.proofs.typing.chunk_letters.set_length.Given as goal

abbrev pub invariant-loop-items : goal.invariant-loop-items
invariant-loop-items g l = array_vec_len l.items ≤ l.count

abbrev pub decreases-loop-items : goal.decreases-loop-items
decreases-loop-items g l = l.count - array_vec_len l.items
