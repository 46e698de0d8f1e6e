-- Why a day can't be planned, as a refusal.
use Rattle.std.proofs.Common.{◌≡◌, ◌||◌, ℕ, Bool, false, List, Option, Result, Err, refl, ap, ◌∙◌, arith}
use Rattle.kd_tables.specs.declared.model.Model.{Model}
use Rattle.kd_state.specs.SheetDay.{Day}
use Rattle.kd_booklet.specs.declared.fault.NoPlan.{NoPlan}
use Rattle.kd_booklet.specs.declared.fault.NoPlan.TheVariants.{NoSuchDay, OtherModel}
use Rattle.kd_curator.specs.Refusals.{fault_of_plan, is_device, is_device_fault}
use Rattle.kd_curator.specs.RunPage.{IsDayRefusal}
use Rattle.kd_curator.specs.declared.fault.Refused.{Refused}

no_device_fault : (why : NoPlan) → is_device_fault (fault_of_plan why) ≡ false
no_device_fault NoSuchDay = refl
no_device_fault OtherModel = refl

-- a day that can't be planned isn't refused because of a device
pub refusal_no_device : (model : Model) (month : List (Option Day)) (numbers : List ℕ) (refused : Refused)
    → IsDayRefusal model month numbers refused → is_device_fault refused.fault ≡ false
refusal_no_device model month numbers refused of =
    ap (λ (r : Refused). is_device_fault r.fault) of.told ∙ no_device_fault of.fault.why

-- a refusal without a device leaves the sink as well as it was
pub refused_well : (before : Bool) (answer : Result (Unit {0}) Refused) (refused : Refused) → answer ≡ Err refused
    → is_device_fault refused.fault ≡ false → before ≡ (before || is_device answer)
refused_well before answer refused is other = grind arith
