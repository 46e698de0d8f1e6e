-- What `run_page` writes, and when `run_page` refuses.
use Rattle.std.specs.Prelude.{◌≡◌, ℕ, nat_lt, List, [], ◌∷◌, filter, length, Option, Some, None}
use Rattle.std.specs.Prelude.{Result, Err}
use Rattle.std.specs.List.{range_with_len}
use Rattle.kd_tables.specs.declared.model.Model.{Model}
use Rattle.kd_tables.specs.Ports.{Port}
use Rattle.kd_state.specs.declared.machine.parts.Parts.{Parts}
use Rattle.kd_state.specs.Machine.{model_of}
use Rattle.kd_state.specs.SheetDay.{Day}
use Rattle.kd_host.specs.Writing.{WritesText}
use Rattle.kd_sheet.specs.Sheet.{has_day_of}
use Rattle.kd_language.specs.declared.language.Language.{Language}
use Rattle.kd_booklet.specs.Booklet.{IsBooklet}
use Rattle.kd_booklet.specs.Chain.{ArePlanned, IsFirstFault}
use Rattle.kd_booklet.specs.declared.day_plan.DayPlan.{DayPlan}
use Rattle.kd_booklet.specs.declared.fault.DayFault.{DayFault}
use Rattle.kd_curator.specs.Refusals.{day_refusal, refused_device, refused_whole}
use Rattle.kd_curator.specs.declared.fault.PageFault.TheVariants.{NoSuchDay}
use Rattle.kd_curator.specs.declared.fault.Refused.{Refused}

-- the days that the command line names; if it names no days, all days that the month has for the model
abbrev pub wanted_days : Option (List ℕ) → Model → List (Option Day) → List ℕ
wanted_days (Some days) model month = days
wanted_days None model month = filter (has_day_of model month) (range_with_len 1 31)

-- `refused` is the refusal of the first day among `numbers` that can't be planned.
pub record IsDayRefusal (model : Model) (month : List (Option Day)) (numbers : List ℕ) (refused : Refused)
    : Type 0 where
  pub fault : DayFault
  pub first : IsFirstFault model month numbers fault
  pub told : refused ≡ day_refusal (nat_lt 1 (length numbers)) fault

-- The cases of `run_page`, for the days `numbers`. `name` is the name of the key sheet's file.
-- - `NoDays`: there are no days.
-- - `NoPage`: one or more days can't be planned, and the first of them is refused.
-- - `Pages`: the pages of all days were written. If the sink failed, only a prefix of the pages was written.
pub data WritesPages (l : Language) (name : List ℕ) (month : List (Option Day)) (m : Parts) (numbers : List ℕ)
    (sink : Port) (answer : Result (Unit {0}) Refused) : Type 0 where
  NoDays : numbers ≡ [] → answer ≡ Err (refused_whole NoSuchDay) → WritesPages l name month m numbers sink answer
  NoPage : (refused : Refused) → IsDayRefusal (model_of m) month numbers refused → answer ≡ Err refused
      → WritesPages l name month m numbers sink answer
  Pages : (first : DayPlan) (others : List DayPlan) → ArePlanned month m numbers (first ∷ others)
      → (text : List ℕ) → IsBooklet l name m first others text → WritesText refused_device text sink answer
      → WritesPages l name month m numbers sink answer
