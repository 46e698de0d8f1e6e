-- How the desk handles a message: a typed text, an order to send, or a received form.
-- Test: tests/cases/desk-messages.toml
use Rattle.std.specs.Prelude.{◌≡◌, List, ℕ, ◌++◌, Result}
use Rattle.std.specs.Result.{result_map_both}
use Rattle.kd_state.specs.declared.machine.parts.Parts.{Parts}
use Rattle.kd_state.specs.SheetDay.{Day}
use Rattle.kd_form.specs.declared.fault.FormFault.{FormFault}
use Rattle.kd_form.specs.declared.fault.FormFault.TheVariants as message
use Rattle.kd_form.specs.FormText.{IsTextOf, IsReceiveFault, IsPlaintextOf, form_message}
use Rattle.kd_form.specs.Sending.{IsFormOf}
use Rattle.kd_form.specs.SendStream.{order_message}
use Rattle.kd_form.specs.Streams.{Message, StreamsOnKey}
use Rattle.kd_form.specs.Typing.{TypesIfReady}
use Rattle.kd_desk.specs.declared.fault.DeskFault.{DeskFault}
use Rattle.kd_desk.specs.declared.fault.DeskFault.TheVariants as faults
use Rattle.kd_tables.specs.Ports.{Port}

-- the desk's fault for a message's fault: `Device` and `ReadTooLong` stay, and any other fault becomes a `Message`
abbrev pub fault_of_message : FormFault → DeskFault
fault_of_message message.Device = faults.Device
fault_of_message message.ReadTooLong = faults.ReadTooLong
fault_of_message fault = faults.Message fault

-- the desk's answer for the answer of a call that types, sends or receives a message: a fault becomes a `DeskFault`
abbrev pub answer_to_message : Result (Unit {0}) FormFault → Result (Unit {0}) DeskFault
answer_to_message answer = result_map_both (λ done. done) fault_of_message answer

-- The answer of a call that types, sends or receives a message satisfies `is_so`. `answer` is this answer, with its
-- fault turned into a `DeskFault`.
pub record IsAnswered (is_so : Result (Unit {0}) FormFault → Type 0) (answer : Result (Unit {0}) DeskFault)
    : Type 0 where
  pub told : Result (Unit {0}) FormFault
  pub so : is_so told
  pub answers : answer ≡ answer_to_message told

-- The ciphertext of a typed text is written, or the text is refused.
abbrev pub TypesText : Parts → Port → Port → Result (Unit {0}) DeskFault → Type 0
TypesText m source sink answer = IsAnswered (TypesIfReady m source sink) answer

-- The message was streamed or refused. Streaming a message means writing its result while the message is still being
-- read.
abbrev pub IsStreamedOn : Parts → Day → Message → Port → Port → Result (Unit {0}) DeskFault → Type 0
IsStreamedOn m s message source sink answer = IsAnswered (StreamsOnKey m s message source sink) answer

-- The form of the order is written, or the order is refused.
abbrev pub Sends : Parts → Day → Port → Port → Result (Unit {0}) DeskFault → Type 0
Sends m s order sink answer = IsStreamedOn m s (order_message s) order sink answer

-- The forms and the orders of day `s` agree. Suppose that a form is made from an order.
-- - The form's text is the order's plaintext, as `IsPlaintextOf` defines it.
-- - The form has no fault.
-- - No prefix of the form has a fault that stays whatever bytes follow.
pub record FormsAgreeWithOrders (s : Day) : Type 0 where
  pub back : (form text order given : List ℕ) → IsTextOf s form text → IsFormOf s order form
      → IsPlaintextOf s order given → text ≡ given
  pub of_no_order : (form order : List ℕ) (fault : FormFault) → IsReceiveFault s form fault → ¬ (IsFormOf s order form)
  pub of_no_front : (form more order : List ℕ) (fault : FormFault) → (form_message s).stands form fault
      → ¬ (IsFormOf s order (form ++ more))

-- The text of the form is written, or the form is refused. The day's forms and orders agree, as
-- `FormsAgreeWithOrders` says.
pub record Receives (m : Parts) (s : Day) (form sink : Port) (answer : Result (Unit {0}) DeskFault) : Type 0 where
  pub streamed : IsStreamedOn m s (form_message s) form sink answer
  pub orders : FormsAgreeWithOrders s
