-- Laws: each order and each form has one result or one fault. An order's form gives back the order's letters.
use Rattle.std.specs.Prelude.{ℕ, List, ◌++◌, Result, Err}
use Rattle.kd_state.specs.AnswerRules.{HasOneAnswer}
use Rattle.kd_state.specs.SheetDay.{Day, IsLegalDay}
use Rattle.kd_form.specs.declared.fault.FormFault.{FormFault}
use Rattle.kd_form.specs.Sending.{IsOrderAnswer, IsFormOf, IsOrderFaultForGood, IsSendFault}
use Rattle.kd_form.specs.FormText.{IsAnswerAfter, IsFormAnswer, IsTextOf, IsRefusedForGood, IsPlaintextOf}

-- An order has only one right answer: one form, or one fault.
abbrev pub OrdersHaveOneAnswer : Type 0
OrdersHaveOneAnswer = (s : Day) (order : List ℕ) → HasOneAnswer (IsOrderAnswer s order)

-- An order has a right answer: a form or a fault.
abbrev pub OrderIsAnswered : Day → List ℕ → Type 0
OrderIsAnswered s order = (answer : Result (List ℕ) FormFault) × IsOrderAnswer s order answer

-- If an order is refused for good, appending bytes doesn't change the fault.
abbrev pub OrdersStayRefused : Type 0
OrdersStayRefused =
    (s : Day) (order more : List ℕ) (fault : FormFault) → IsOrderFaultForGood s order fault
    → IsSendFault s (order ++ more) fault

-- A form has only one right answer: one text, or one fault.
abbrev pub FormsHaveOneAnswer : Type 0
FormsHaveOneAnswer = (s : Day) (form : List ℕ) → HasOneAnswer (IsFormAnswer s form)

-- If a form is refused for good, it stays refused with the same fault when bytes are appended. The text of the parts
-- before the fault stays the same.
abbrev pub FormsStayRefused : Type 0
FormsStayRefused =
    (s : Day) (form more text : List ℕ) (fault : FormFault) → IsRefusedForGood s form text fault
    → IsAnswerAfter s (form ++ more) text (Err fault) × IsRefusedForGood s (form ++ more) text fault

-- A form has a right answer: a text or a fault.
abbrev pub FormIsAnswered : Day → List ℕ → Type 0
FormIsAnswered s form = (answer : Result (List ℕ) FormFault) × IsFormAnswer s form answer

-- Each order that becomes a form has a plaintext: the text that the form's receiver must get.
abbrev pub OrdersGiveLetters : Type 0
OrdersGiveLetters = (s : Day) (order form : List ℕ) → IsFormOf s order form → (given : List ℕ)
    × IsPlaintextOf s order given

-- On a legal day, deciphering an order's form gives the text that the form's receiver must get.
abbrev pub FormsGiveTheirOrders : Type 0
FormsGiveTheirOrders =
    (s : Day) (order form given : List ℕ) → IsLegalDay s → IsFormOf s order form → IsPlaintextOf s order given
    → IsTextOf s form given
