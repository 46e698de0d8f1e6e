use Rattle.kd_prices.proofs.{Leading.IsCarriedUpTo-next, Prelude.{arith, sym}}
use Rattle.kd_prices.proofs.carried.carry_settings.Goals as goal

pub loop-place-preserved : goal.loop-place-preserved
loop-place-preserved c =
    rw c.and-need_result.ensures
    (IsCarriedUpTo-next _ _ (omega arith) (sym c.index-settings-place.is) c.loop-place.invariant
    c.in_default.ensures.carried (cc) c.check_need.ensures)
