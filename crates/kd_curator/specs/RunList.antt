-- What `run_list` writes, and when `run_list` refuses.
use Rattle.std.specs.Prelude.{◌≡◌, ℕ, false, List, Option, Result, Err, OnOk}
use Rattle.kd_tables.specs.Ports.{Port}
use Rattle.kd_state.specs.declared.machine.parts.Parts.{Parts}
use Rattle.kd_state.specs.Line.{list_text, IsListText}
use Rattle.kd_state.specs.Machine.{model_of}
use Rattle.kd_state.specs.SheetDay.{Day}
use Rattle.kd_host.specs.Writing.{WritesText}
use Rattle.kd_booklet.specs.Chain.{IsDayFault, IsPlanOf}
use Rattle.kd_booklet.specs.declared.day_plan.DayPlan.{DayPlan}
use Rattle.kd_booklet.specs.declared.fault.DayFault.{DayFault}
use Rattle.kd_curator.specs.Refusals.{day_refusal, refused_device}
use Rattle.kd_curator.specs.declared.fault.Refused.{Refused}

-- The cases of `run_list`, for the day `number`:
-- - `NoList`: the day can't be planned, and the answer says why.
-- - `Settings`: the settings of a plan for the day were written, in the order of the day's page. If
--   the sink failed, only a prefix of their text was written. The plan leads from machine `m` to
--   machine `n`. If the whole text was written, reading the text gives these settings.
pub data WritesList (month : List (Option Day)) (m : Parts) (number : ℕ) (sink : Port)
    (answer : Result (Unit {0}) Refused) : Type 0 where
  NoList : (fault : DayFault) → IsDayFault (model_of m) month number fault
      → answer ≡ Err (day_refusal false fault) → WritesList month m number sink answer
  Settings : (plan : DayPlan) (n : Parts) → IsPlanOf month m number plan n
      → OnOk answer (IsListText (list_text plan.settings.items) plan.settings.items)
      → WritesText refused_device (list_text plan.settings.items) sink answer → WritesList month m number sink answer
