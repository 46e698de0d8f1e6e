-- What `run_send` writes, and when `run_send` refuses.
use Rattle.std.specs.Prelude.{◌≡◌, ℕ, List, None, Option, Some, Result, Err}
use Rattle.kd_tables.specs.Ports.{Port}
use Rattle.kd_state.specs.declared.machine.parts.Parts.{Parts}
use Rattle.kd_state.specs.SheetDay.{Day}
use Rattle.kd_host.specs.Writing.{WritesText}
use Rattle.kd_form.specs.OnTheKey.{IsReadyOnKey}
use Rattle.kd_form.specs.Sending.{IsFormOf}
use Rattle.kd_form.specs.declared.fault.FormFault.{FormFault}
use Rattle.kd_language.specs.declared.language.Language.{Language}
use Rattle.kd_pictures.specs.declared.results.Results.{Results}
use Rattle.kd_message.specs.SendPage.{IsSendPage, IsSendRefusal}
use Rattle.kd_curator.specs.Refusals.{refused_device, refused_message, refused_whole}
use Rattle.kd_curator.specs.declared.fault.PageFault.TheVariants.{NoSuchDay}
use Rattle.kd_curator.specs.declared.fault.Refused.{Refused}

-- The cases of `run_send`, for the sheet's day `day`:
-- - `NoDay`: the sheet doesn't have the day that the command names.
-- - `NoPage`: the order is refused on this day, for the fault that `send` returns.
-- - `Page`: the order's page was written in language `l`. If the sink failed, only a prefix of the page was written.
pub data WritesSendPage (results : Results) (l : Language) (day : Option Day) (m : Parts) (order : List ℕ)
    (sink : Port) (answer : Result (Unit {0}) Refused) : Type 0 where
  NoDay : day ≡ None → answer ≡ Err (refused_whole NoSuchDay)
      → WritesSendPage results l day m order sink answer
  NoPage : (s : Day) → day ≡ Some s → (fault : FormFault) → IsSendRefusal m s order fault
      → answer ≡ Err (refused_message fault) → WritesSendPage results l day m order sink answer
  Page : (s : Day) → day ≡ Some s → (form page : List ℕ)
      → IsReadyOnKey m s → IsFormOf s order form → IsSendPage results l s order form page
      → WritesText refused_device page sink answer → WritesSendPage results l day m order sink answer
