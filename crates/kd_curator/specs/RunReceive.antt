-- What `run_receive` writes, and when `run_receive` refuses.
use Rattle.std.specs.Prelude.{◌≡◌, ◌⊎◌, ◌≤◌, false, ℕ, List, None, Option, Some, Result, Ok, Err, IsErr, length}
use Rattle.std.specs.Io.KnownBytes.{Appends}
use Rattle.kd_tables.specs.Ports.{Port}
use Rattle.kd_tables.specs.Writing.{TakesPrefix}
use Rattle.kd_state.specs.declared.machine.parts.Parts.{Parts}
use Rattle.kd_state.specs.SheetDay.{Day}
use Rattle.kd_form.specs.OnTheKey.{IsKeyFault, IsReadyOnKey}
use Rattle.kd_form.specs.declared.fault.FormFault.{FormFault}
use Rattle.kd_lost.specs.DamagedForm.{AreFormParts, IsFormFault, damaged_parts_of}
use Rattle.kd_lost.specs.declared.form.DamagedFormFault.{DamagedFormFault}
use Rattle.kd_lost.specs.declared.part.DamagedPart.{DamagedPart}
use Rattle.kd_language.specs.declared.language.Language.{Language}
use Rattle.kd_pictures.specs.declared.results.Results.{Results}
use Rattle.kd_message.specs.ReceivePage.{receive_notes, receive_text}
use Rattle.kd_lost.specs.ShownParts.{IsWhole}
use Rattle.kd_curator.specs.Refusals.{has_written, refused_device, refused_form, refused_message, refused_whole}
use Rattle.kd_curator.specs.declared.fault.PageFault.TheVariants.{NotWhole, NoSuchDay}
use Rattle.kd_curator.specs.declared.fault.Refused.{Refused}

-- The machine is ready, and is on the day's key. The form has at most 255 parts, and reading them gives `parts`.
pub record IsFormRead (m : Parts) (s : Day) (form : List ℕ) (parts : List DamagedPart) : Type 0 where
  pub ready : IsReadyOnKey m s
  pub read : AreFormParts s form parts
  pub few : length (damaged_parts_of form) ≤ 255

-- `answer` is the command's answer after the page that shows `parts` was written. The command succeeds exactly if
-- `parts` are one whole message of the day.
abbrev pub IsReceivedAs : List DamagedPart → Result (Unit {0}) Refused → Type 0
IsReceivedAs parts answer =
    (IsWhole parts × (answer ≡ Ok tt)) ⊎ (¬ (IsWhole parts) × (answer ≡ Err (refused_whole NotWhole)))

-- The cases of `run_receive`, for the sheet's day `day`:
-- - `NoDay`: the sheet doesn't have the day that the command names.
-- - `OffKey`: the machine isn't ready, or isn't on the day's key.
-- - `NotRead`: the form has too many parts, or memory ran out.
-- - `Page`: the page of the form's parts was written.
-- - `Cut`: only a prefix of the page was written, since the sink failed.
pub data WritesReceivePage (results : Results) (l : Language) (day : Option Day) (m : Parts)
    (form : List ℕ) (sink : Port) (answer : Result (Unit {0}) Refused) : Type 0 where
  NoDay : day ≡ None → answer ≡ Err (refused_whole NoSuchDay)
      → WritesReceivePage results l day m form sink answer
  OffKey : (s : Day) → day ≡ Some s → (fault : FormFault) → IsKeyFault m s fault
      → answer ≡ Err (refused_message fault) → WritesReceivePage results l day m form sink answer
  NotRead : (s : Day) → day ≡ Some s → IsReadyOnKey m s → (fault : DamagedFormFault)
      → IsFormFault (damaged_parts_of form) fault → answer ≡ Err (refused_form fault)
      → WritesReceivePage results l day m form sink answer
  Page : (s : Day) → day ≡ Some s → (parts : List DamagedPart)
      → IsFormRead m s form parts → Appends sink.had sink.has (receive_text results l s parts)
      → IsReceivedAs parts answer → WritesReceivePage results l day m form sink answer
  Cut : (s : Day) → day ≡ Some s → (parts : List DamagedPart)
      → IsFormRead m s form parts → TakesPrefix sink.had sink.has (receive_text results l s parts)
      → answer ≡ Err refused_device → WritesReceivePage results l day m form sink answer

-- The notes on standard error satisfy `Told`. The notes say what is wrong with the form's parts, and what the sender
-- should repeat. If no page is written, there may be no notes.
pub data TellsOfForm (l : Language) (day : Option Day) (m : Parts) (form : List ℕ)
    (Told : List ℕ → Type 0) (answer : Result (Unit {0}) Refused) : Type 0 where
  OfParts : (s : Day) → day ≡ Some s → IsReadyOnKey m s → (parts : List DamagedPart)
      → AreFormParts s form parts → Told (receive_notes l s parts)
      → TellsOfForm l day m form Told answer
  OfNothing : IsErr answer → has_written answer ≡ false → TellsOfForm l day m form Told answer
