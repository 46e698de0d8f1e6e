-- What `run_orders` writes, and when `run_orders` refuses.
use Rattle.std.specs.Prelude.{◌≡◌, ℕ, All, List, [], ◌∷◌, None, Option, Some, Result, Err}
use Rattle.kd_tables.specs.Ports.{Port}
use Rattle.kd_state.specs.declared.machine.parts.Parts.{Parts}
use Rattle.kd_state.specs.SheetDay.{Day}
use Rattle.kd_sheet.specs.Sheet.{day_of}
use Rattle.kd_host.specs.Writing.{WritesText}
use Rattle.kd_language.specs.declared.language.Language.{Language}
use Rattle.kd_pictures.specs.declared.results.Results.{Results}
use Rattle.kd_message.specs.SendBooklet.{CanBeSent, IsFirstRefusal, IsSendBooklet, OrderText}
use Rattle.kd_message.specs.declared.booklet.OrderFault.{OrderFault}
use Rattle.kd_curator_command.specs.declared.command.MessageTask.{MessageTask}
use Rattle.kd_curator.specs.MachineAndSheet.{IsAnswerOnSheet}
use Rattle.kd_curator.specs.Refusals.{refused_among, refused_device, refused_whole}
use Rattle.kd_curator.specs.declared.fault.PageFault.TheVariants.{NoSuchDay}
use Rattle.kd_curator.specs.declared.fault.Refused.{Refused}

-- The cases of `run_orders`, for the sheet's day `day`:
-- - `NoDay`: the sheet doesn't have the day that the command names.
-- - `NoPages`: an order is refused on this day, and the first such order is named.
-- - `Pages`: all orders can be sent on this day. The file with their pages was written in language `l`. If the sink
--   failed, only a prefix of the file was written.
pub data WritesOrders (results : Results) (l : Language) (day : Option Day) (m : Parts)
    (orders : List OrderText) (sink : Port) (answer : Result (Unit {0}) Refused) : Type 0 where
  NoDay : day ≡ None → answer ≡ Err (refused_whole NoSuchDay)
      → WritesOrders results l day m orders sink answer
  NoPages : (s : Day) → day ≡ Some s → (fault : OrderFault) → IsFirstRefusal m s 0 orders fault
      → answer ≡ Err (refused_among fault) → WritesOrders results l day m orders sink answer
  Pages : (s : Day) → day ≡ Some s → All (λ (order : OrderText). CanBeSent m s order.bytes) orders
      → (text : List ℕ) → IsSendBooklet results l s orders text
      → WritesText refused_device text sink answer → WritesOrders results l day m orders sink answer

-- the orders, from the names and the bytes of their files
abbrev pub order_texts : List (List ℕ) → List (List ℕ) → List OrderText
order_texts (name ∷ names) (bytes ∷ texts) = record { name = name; bytes = bytes } ∷ order_texts names texts
order_texts [] texts = []
order_texts (name ∷ names) [] = []

-- The task writes its output for the orders to `sink`, and its answer is `answer`. `machine` and `sheet` are the bytes
-- of the machine file and of the key sheet. Words are in language `l`.
abbrev pub SendsOrders : Language → MessageTask → List ℕ → List ℕ → List OrderText → Port → Result (Unit {0}) Refused
    → Type 0
SendsOrders l task machine sheet orders sink answer = IsAnswerOnSheet machine sheet
    (λ m month. WritesOrders task.results l (day_of month task.day) m orders sink answer) answer
