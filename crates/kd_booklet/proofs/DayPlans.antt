-- A day's list sets the machine as the day says, and is in the order of the page.
use Rattle.std.proofs.Common.{List, subst}
use Rattle.kd_state.specs.declared.machine.parts.Parts.{Parts}
use Rattle.kd_state.specs.declared.setting.Setting.{Setting}
use Rattle.kd_state.specs.Machine.{IsMachine}
use Rattle.kd_state.specs.OnKey.{ReadsAs}
use Rattle.kd_state.specs.Setting.{Leads}
use Rattle.kd_state.specs.SheetDay.{Day, IsLegalDay}
use Rattle.kd_state.proofs.Keys.{reading_cipher, reading_ready}
use Rattle.kd_state.proofs.Carrying.{leads_unique}
use Rattle.kd_state.specs.SheetsMachine.{IsSheetsMachine}
use Rattle.kd_booklet.specs.HandList.{IsHandList}
use Rattle.kd_booklet.specs.DayPlan.{IsPageOrder}
use Rattle.kd_booklet.proofs.PlannedBoxes.{page_order}

-- Settings in an order for the hand, once they are carried out, have set the machine as the day says.
pub sheets_machine : (m n : Parts) (s : Day) (settings : List Setting) → IsLegalDay s → IsMachine n
    → IsHandList m s settings → Leads m settings n → IsSheetsMachine n s
sheets_machine m n s settings legal machine by_hand leads =
    let same = leads_unique m by_hand.leads.0 n settings by_hand.leads.1 leads in
    let reads : ReadsAs n s = subst (λ k. ReadsAs k s) same by_hand.leads.2 in
    record {
      machine = machine;
      reads = reads;
      ready = reading_ready n s machine legal reads;
      enciphers = λ text. reading_cipher n s text machine legal reads;
    }

-- The settings are in the order of the page.
pub settings_order : (m : Parts) (s : Day) (settings : List Setting) → IsMachine m → IsLegalDay s
    → IsHandList m s settings → IsPageOrder m settings
settings_order m s settings machine legal by_hand =
    let planned = by_hand.of_planner.planned in
    rw (by_hand.order, planned.lines) (page_order m s planned.to machine legal planned.model)
