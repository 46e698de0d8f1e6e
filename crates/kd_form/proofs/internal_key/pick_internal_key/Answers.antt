use Rattle.kd_form.proofs.MadeParts.{key_picked, run_out, arith, nat_tests}
use Rattle.kd_form.proofs.internal_key.pick_internal_key.Goals as goal

pub returns-then-is_full : goal.returns-then-is_full
returns-then-is_full c =
    key_picked _ _ _ c.loop-letter.invariant (grind (arith, nat_tests, c.is_full.ensures.value, c.if-is_full.true))

pub returns-else-is_full : goal.returns-else-is_full
returns-else-is_full c =
    run_out _ _ _ c.loop-letter.invariant (omega (arith, c.loop-letter-test.false))
    (grind (arith, nat_tests, c.is_full.ensures.value, c.if-is_full.false))
