-- The answers of the pages for sending one order and several orders, as refusals.
use Rattle.std.proofs.Common.{◌≡◌, ℕ, List, Option, Some, false, Err, Ok, Result, ap, refl, sym}
use Rattle.kd_tables.specs.Ports.{Port}
use Rattle.kd_tables.specs.WriteFault.{is_device as is_page_device}
use Rattle.kd_tables.specs.declared.ports.write_fault.WriteFault.{WriteFault}
use Rattle.kd_tables.specs.declared.ports.write_fault.WriteFault.TheVariants.{Device, Unwritten}
use Rattle.kd_state.specs.declared.machine.parts.Parts.{Parts}
use Rattle.kd_state.specs.SheetDay.{Day}
use Rattle.kd_language.specs.declared.language.Language.{Language}
use Rattle.kd_pictures.specs.declared.results.Results.{Results}
use Rattle.kd_form.specs.declared.fault.FormFault.{FormFault}
use Rattle.kd_message.specs.SendPage.{IsSendPageAnswer, PageWritten, Refused as PageRefused}
use Rattle.kd_message.specs.SendBooklet.{BookletWritten, IsBookletAnswer, OrderRefused, OrderText}
use Rattle.kd_message.specs.declared.booklet.OrderFault.{OrderFault}
use Rattle.kd_curator.specs.Refusals.{is_device, refused_among, refused_by, refused_message}
use Rattle.kd_curator.specs.RunOrders.{NoPages, Pages, WritesOrders}
use Rattle.kd_curator.specs.RunSend.{NoPage, Page, WritesSendPage}
use Rattle.kd_curator.specs.declared.fault.Refused.{Refused}

abbrev pub send_answer : Result (Unit {0}) (WriteFault FormFault) → Result (Unit {0}) Refused
send_answer (Ok done) = Ok done
send_answer (Err fault) = Err (refused_by refused_message fault)

pub page_told : (results : Results) (l : Language) (day : Option Day) (m : Parts) (order : List ℕ) (sink : Port)
    (s : Day) → day ≡ Some s
    → (told : Result (Unit {0}) (WriteFault FormFault)) → IsSendPageAnswer results l m s order sink told
    → WritesSendPage results l day m order sink (send_answer told)
page_told results l day m order sink s found (Ok done) (PageWritten form page ready is shown writes device failed) =
    Page s found form page ready is shown
    (record { written = record { whole = writes.whole; front = tt }; device = tt })
page_told results l day m order sink s found (Err fault) (PageWritten form page ready is shown writes device failed) =
    Page s found form page ready is shown
    (record { written = record { whole = tt; front = writes.front }; device = ap send_answer device })
page_told results l day m order sink s found told (PageRefused fault why is untouched) =
    NoPage s found fault why (ap send_answer is)

abbrev pub orders_answer : Result (Unit {0}) (WriteFault OrderFault) → Result (Unit {0}) Refused
orders_answer (Ok done) = Ok done
orders_answer (Err fault) = Err (refused_by refused_among fault)

pub pages_told : (results : Results) (l : Language) (day : Option Day) (m : Parts)
    (orders : List OrderText) (sink : Port) (s : Day) → day ≡ Some s
    → (told : Result (Unit {0}) (WriteFault OrderFault)) → IsBookletAnswer results l m s orders sink told
    → WritesOrders results l day m orders sink (orders_answer told)
pages_told results l day m orders sink s found (Ok done) (BookletWritten good text booklet writes device failed) =
    Pages s found good text booklet
    (record { written = record { whole = writes.whole; front = tt }; device = tt })
pages_told results l day m orders sink s found (Err fault) (BookletWritten good text booklet writes device failed) =
    Pages s found good text booklet
    (record { written = record { whole = tt; front = writes.front }; device = ap orders_answer device })
pages_told results l day m orders sink s found told (OrderRefused fault why is untouched) =
    NoPages s found fault why (ap orders_answer is)

-- a refusal that isn't for a failed device
module _ {F : Type 0} (refused : F → Refused) (never : (why : F) → is_device (Err (refused why)) ≡ false) where
  pub device_told : (fault : WriteFault F)
      → is_page_device {T = Unit {0}} (Err fault) ≡ is_device (Err (refused_by refused fault))
  device_told (Unwritten fault) = sym (never fault)
  device_told Device = refl

  -- a sink that is untouched but for a failed device
  pub untouched_told : {X : Type 0} (fault : WriteFault F) → (is_page_device {T = Unit {0}} (Err fault) ≡ false → X)
      → is_device (Err (refused_by refused fault)) ≡ false → X
  untouched_told (Unwritten fault) holds other = holds refl
  untouched_told Device holds other = absurd (cc)
