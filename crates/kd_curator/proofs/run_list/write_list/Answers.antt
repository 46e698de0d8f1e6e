use Rattle.std.proofs.Common.{Err, IsErrAnd, Ok, OnOk, Result, refl, ◌≡◌}
use Rattle.kd_host.proofs.Failing.{in_part, in_whole}
use Rattle.kd_curator.specs.RunList.{NoList, Settings}
use Rattle.kd_curator.proofs.run_list.write_list.Goals as goal

-- what holds on success holds of an error
nothing_on_err : {T F : Type 0} (P : Type 0) (answer : Result T F) (fault : F) → IsErrAnd answer (λ made. made ≡ fault)
    → OnOk answer P
nothing_on_err P (Err made) fault is = tt
nothing_on_err P (Ok done) fault is = absurd is

pub returns-in-Err-clause-list : goal.returns-in-Err-clause-list
returns-in-Err-clause-list g c = rw c.of_day.ensures (NoList c.in-Err.fault c.in-Err.ensures.fault refl)

pub returns-in_err-put_lines-clause-list : goal.returns-in_err-put_lines-clause-list
returns-in_err-put_lines-clause-list g c = Settings _ _
    (record { s = _; of_month = c.in-Ok.ensures.found; plans = c.plan_day-plan.ensures.plan })
    (nothing_on_err _ _ _ c.from_residual.ensures.1)
    (in_part _ _ _ _ (rw c.as_slice.ensures.value at c.in_err-put_lines.ensures.text.front) c.from_residual.ensures.1)

pub returns-clause-list : goal.returns-clause-list
returns-clause-list g c = Settings _ _
    (record { s = _; of_month = c.in-Ok.ensures.found; plans = c.plan_day-plan.ensures.plan })
    (record { text = refl; in_range = rw c.as_slice.ensures.value at c.in_ok-put_lines.ensures.in_range; few = c.plan_day-plan.ensures.plan.few })
    (in_whole _ _ _ (rw c.as_slice.ensures.value at c.in_ok-put_lines.ensures.text.whole))
