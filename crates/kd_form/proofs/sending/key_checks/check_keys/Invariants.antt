use Rattle.kd_form.proofs.Prelude.{InTurn, IsKeysAnswer, take, Ok}
use Rattle.kd_form.proofs.sending.key_checks.check_keys.Given as goal

abbrev pub invariant-loop-index : goal.invariant-loop-index
invariant-loop-index l = InTurn (IsKeysAnswer l.day) 1 (take l.index l.keys) (Ok tt)
