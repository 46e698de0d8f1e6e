-- The plans of several days: each plan starts from the machine to which the previous plan leads.
-- Code: `add_plans` plans one day after another, and stops at the first day that can't be planned.
-- Test: tests/cases/curator-pages.toml
use Rattle.std.specs.Prelude.{◌≡◌, ◌≢◌, ◌⊎◌, ℕ, List, [], ◌∷◌, ◌++◌, Option, Some, None}
use Rattle.kd_tables.specs.declared.model.Model.{Model}
use Rattle.kd_state.specs.declared.machine.parts.Parts.{Parts}
use Rattle.kd_state.specs.SheetDay.{Day, day_model}
use Rattle.kd_sheet.specs.Sheet.{HasDayOf, day_of}
use Rattle.kd_booklet.specs.DayPlan.{IsDayPlan}
use Rattle.kd_booklet.specs.declared.day_plan.DayPlan.{DayPlan}
use Rattle.kd_booklet.specs.declared.fault.DayFault.{DayFault}
use Rattle.kd_booklet.specs.declared.fault.NoPlan.{NoPlan}
use Rattle.kd_booklet.specs.declared.fault.NoPlan.TheVariants.{NoSuchDay, OtherModel}

-- The month has the day `number`. The plan is for this day, and leads from machine `m` to machine `n`.
pub record IsPlanOf (month : List (Option Day)) (m : Parts) (number : ℕ) (plan : DayPlan) (n : Parts) : Type 0 where
  pub s : Day
  pub of_month : day_of month number ≡ Some s
  pub plans : IsDayPlan m s plan n

-- The plans are for the days `numbers`, in the same order. The first plan starts from machine `m`. Each later plan
-- starts from the machine to which the previous plan leads.
abbrev pub ArePlanned : List (Option Day) → Parts → List ℕ → List DayPlan → Type 0
ArePlanned month m [] [] = Unit {0}
ArePlanned month m (number ∷ numbers) (plan ∷ plans) =
    (n : Parts) × IsPlanOf month m number plan n × ArePlanned month n numbers plans
ArePlanned month m numbers plans = ⊥

-- Why day `number` can't be planned: `month` doesn't have the day, or the day is for another model than `model`.
abbrev pub LacksDay : Model → List (Option Day) → ℕ → NoPlan → Type 0
LacksDay model month number NoSuchDay = day_of month number ≡ None
LacksDay model month number OtherModel = (s : Day) × (day_of month number ≡ Some s) × (model ≢ day_model s)

pub record IsDayFault (model : Model) (month : List (Option Day)) (number : ℕ) (fault : DayFault) : Type 0 where
  pub day : fault.day ≡ number
  pub lacks : LacksDay model month number fault.why

-- `fault` names the first of the listed days that can't be planned, and says why.
abbrev pub IsFirstFault : Model → List (Option Day) → List ℕ → DayFault → Type 0
IsFirstFault model month [] fault = ⊥
IsFirstFault model month (number ∷ numbers) fault =
    IsDayFault model month number fault
    ⊎ (HasDayOf model month number × IsFirstFault model month numbers fault)

-- ---- Plans that are added one by one. No public contract cites this definition.

-- `new` has the plans of `old`, then plans of the days `numbers`. The first of the added plans starts from machine `m`.
pub record AddsPlans (month : List (Option Day)) (m : Parts) (numbers : List ℕ) (old new : List DayPlan) : Type 0 where
  pub plans : List DayPlan
  pub planned : ArePlanned month m numbers plans
  pub joined : new ≡ old ++ plans
