-- A day is planned, and then the days after it.
use Rattle.std.proofs.Common.{◌≡◌, ℕ, List, [], ◌∷◌, ◌++◌, Option, Some, Result, Ok, Err, OnOk, ap, append_assoc, ◌∙◌}
use Rattle.kd_state.specs.declared.machine.parts.Parts.{Parts}
use Rattle.kd_state.specs.SheetDay.{Day}
use Rattle.kd_sheet.specs.Sheet.{day_of}
use Rattle.kd_booklet.specs.Chain.{AddsPlans}
use Rattle.kd_booklet.specs.DayPlan.{IsDayPlan}
use Rattle.kd_booklet.specs.declared.fault.DayFault.{DayFault}
use Rattle.kd_booklet.specs.declared.day_plan.DayPlan.{DayPlan}

-- The plan of day `number`, and then the plans of the days after it, are plans of all days.
pub adds_plan : (month : List (Option Day)) (m n : Parts) (s : Day) (number : ℕ) (numbers all : List ℕ) (plan : DayPlan)
    (old mid new : List DayPlan) (answer : Result (Unit {0}) DayFault) → all ≡ number ∷ numbers
    → day_of month number ≡ Some s → IsDayPlan m s plan n → mid ≡ old ++ plan ∷ []
    → OnOk answer (AddsPlans month n numbers mid new) → OnOk answer (AddsPlans month m all old new)
adds_plan month m n s number numbers all plan old mid new (Err fault) is found planned pushed adds = tt
adds_plan month m n s number numbers all plan old mid new (Ok done) is found planned pushed adds = record {
  plans = plan ∷ adds.plans;
  planned = rw is (n, record { s = s; of_month = found; plans = planned }, adds.planned);
  joined = adds.joined ∙ ap (λ plans. plans ++ adds.plans) pushed ∙ append_assoc old (plan ∷ []) adds.plans;
}
