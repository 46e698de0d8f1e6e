-- This crate's laws. Without a machine, `look` judges an order as `send` does on a day for the order's machine. In the
-- same way, `look` judges a form as `receive` does. The groups that `look` names are the message's own.
use Rattle.std.specs.Prelude.{codes, ◌≡◌, ◌⊎◌, ℕ, ◌+◌, ◌≤◌, ◌&&◌, List, Result, Ok, Err, IfOk, None, Contains, drop}
use Rattle.std.specs.Prelude.{[], ◌∷◌, Some, length, take, true, false}
use Rattle.std.specs.List.{flat_map}
use Rattle.kd_state.specs.SheetDay.{Day, IsLegalDay, PinDay, RotorDay, Rotor, Pin}
use Rattle.kd_form.specs.declared.fault.FormFault.{FormFault}
use Rattle.kd_form.specs.declared.fault.FormFault.TheVariants.{BadByte, IndicatorSpent, WrongGroup}
use Rattle.kd_form.specs.declared.keys.Keys.{Keys}
use Rattle.kd_form.specs.declared.keys.Keys.TheVariants.{Rotor, Pin}
use Rattle.kd_form.specs.declared.heading.Heading.{Heading}
use Rattle.kd_form.specs.BodyCipher.{IsLettersAnswer, group_of_body}
use Rattle.kd_form.specs.FormParts.{begins_heading, parts_of}
use Rattle.kd_form.specs.FormText.{IsFormAnswer, IsTextOf, PartsProperty, ReadsPartsTo, first_part_start}
use Rattle.kd_form.specs.InTurn.{InTurn}
use Rattle.kd_form.specs.Order.{IsOrder, IsOrderHeadFault}
use Rattle.kd_form.specs.PartMaking.{IsKeysAnswer}
use Rattle.kd_form.specs.PartReading.{HasHeading}
use Rattle.kd_form.specs.Sending.{IsFormOf, IsOrderAnswer, letters_from}
use Rattle.kd_sheet.specs.Document.{◌>>=◌}
use Rattle.kd_look.specs.Form.{form_answer}
use Rattle.kd_look.specs.FormHeading.{heading_keys, number_at}
use Rattle.kd_look.specs.FormShown.{IsShownFormAnswer}
use Rattle.kd_look.specs.Groups.{message_of}
use Rattle.kd_look.specs.MessageWords.{is_form, is_message}
use Rattle.kd_look.specs.Order.{keys_given, order_answer, order_start, text_start}
use Rattle.kd_look.specs.OrderHead.{key_line_of}
use Rattle.kd_look.specs.Signs.{marks_end}
use Rattle.kd_look.specs.declared.message.fault.MessageFault.{MessageFault}
use Rattle.kd_look.specs.declared.message.form_heading.FormHeading.{FormHeading}
use Rattle.kd_look.specs.declared.message.order_head.KeyLine.{KeyLine}
use Rattle.kd_look.specs.declared.message.order_head.KeyLine.TheVariants as lines
use Rattle.kd_look.specs.declared.message.signs.WrongByte.{WrongByte}

-- The day is for a machine whose lines of keys have the form `form`.
abbrev pub HasKeyLineForm : Day → KeyLine → Type 0
HasKeyLineForm (Rotor s) lines.ThreeSlots = length s.wheels ≡ 3
HasKeyLineForm (Rotor s) lines.FourSlots = length s.wheels ≡ 4
HasKeyLineForm (Rotor s) lines.Converter = ⊥
HasKeyLineForm (Pin s) lines.ThreeSlots = ⊥
HasKeyLineForm (Pin s) lines.FourSlots = ⊥
HasKeyLineForm (Pin s) lines.Converter = Unit {0}

-- If `look` finds a fault in an order's head, the fault is `BadByte`, at the head's first wrong byte.
abbrev pub HeadFaultsAreThoseOfSend : Type 0
HeadFaultsAreThoseOfSend =
    (s : Day) (form : KeyLine) (order : List ℕ) (found : MessageFault) → HasKeyLineForm s form
    → text_start order form ≡ Err found
    → IsOrderHeadFault s order (found.index + 1) × (found.fault ≡ BadByte (found.index + 1))

-- The bytes of `order` before `start` are a whole head. `look` finds as many lines of keys as the head has.
pub record HasHeadTo (s : Day) (order : List ℕ) (start : ℕ) : Type 0 where
  pub keys : List Keys
  pub inside : start ≤ length order
  pub is_order : IsOrder s order keys (take start order) (drop start order)
  pub counted : keys_given order start ≡ length keys

-- If `look` finds no fault in an order's head, `send` finds none there, and the head ends at the same byte for both.
abbrev pub HeadsEndWhereSendEndsThem : Type 0
HeadsEndWhereSendEndsThem =
    (s : Day) (form : KeyLine) (order : List ℕ) (start : ℕ) → HasKeyLineForm s form
    → text_start order form ≡ Ok start → HasHeadTo s order start

-- ---- Whole orders.

-- A fault of an order's keys that can be found only with the day: a wrong group, or keys without an internal key.
pub data IsDaysFault (fault : FormFault) : Type 0 where
  GroupWrong : (part : ℕ) → fault ≡ WrongGroup part → IsDaysFault fault
  NoInternalKey : (part : ℕ) → fault ≡ IndicatorSpent part → IsDaysFault fault

-- Some of the order's keys don't suit the day. `answer` is the fault of the first of these keys, a fault that can be
-- found only with the day.
pub record IsRefusedByDay (s : Day) (order : List ℕ) (answer : Result (List ℕ) FormFault) : Type 0 where
  pub keys : List Keys
  pub head : List ℕ
  pub text : List ℕ
  pub fault : FormFault
  pub is_order : IsOrder s order keys head text
  pub unsuited : InTurn (IsKeysAnswer s) 1 keys (Err fault)
  pub of_the_day : IsDaysFault fault
  pub answered : answer ≡ Err fault

-- If `look` finds a fault in an order, `send` refuses the order. `send` then names this fault, or a fault that can be
-- found only with the day.
abbrev pub OrderFaultsAreThoseOfSend : Type 0
OrderFaultsAreThoseOfSend =
    (s : Day) (form : KeyLine) (order : List ℕ) (found : MessageFault) (answer : Result (List ℕ) FormFault)
    → HasKeyLineForm s form → order_answer order form ≡ Err found → IsOrderAnswer s order answer
    → (answer ≡ Err found.fault) ⊎ IsRefusedByDay s order answer

-- If `look` finds no fault in an order, `send` makes a form of the order. `send` may instead refuse the order with a
-- fault that can be found only with the day.
abbrev pub FaultlessOrdersAreSent : Type 0
FaultlessOrdersAreSent =
    (s : Day) (form : KeyLine) (order : List ℕ) (start : ℕ) (answer : Result (List ℕ) FormFault)
    → HasKeyLineForm s form → order_answer order form ≡ Ok start → IsOrderAnswer s order answer
    → ((made : List ℕ) × (answer ≡ Ok made)) ⊎ IsRefusedByDay s order answer

-- the group of a rotor machine's keys, as a list with one item; a Converter's keys have no group
abbrev pub group_of_keys : Keys → List (List ℕ)
group_of_keys (Rotor k) = k.group ∷ []
group_of_keys (Pin k) = []

-- If `look` finds no fault in an order, `look` names the groups of the order's lines of keys: one for each line, from
-- the first line to the last. For a Converter's order, `look` names none.
abbrev pub OrderGroupsAreThoseOfKeys : Type 0
OrderGroupsAreThoseOfKeys =
    (s : Day) (order : List ℕ) (start : ℕ) (keys : List Keys) (head text : List ℕ)
    → HasKeyLineForm s (key_line_of order) → order_start order ≡ Ok start → IsOrder s order keys head text
    → message_of order ≡ Some (record { keys = key_line_of order; groups = flat_map group_of_keys keys })

-- ---- Forms.

-- the index after the number of letters in the heading at `index`; or the first wrong byte before this index
unfoldable pub count_end : List ℕ → ℕ → Result ℕ WrongByte
count_end text index = do
  start ← marks_end text (codes "PART ") index
  part ← number_at text start
  slash ← marks_end text (codes "/") part.end
  parts ← number_at text slash
  space ← marks_end text (codes " ") parts.end
  count ← number_at text space
  Ok count.end

-- The day is for the machine that the form's first heading shows after its number of letters. If a wrong byte stands
-- before that place (`count_end`), the day may be any day. Here, a number that is out of range is no wrong byte.
abbrev pub IsDayOfForm : Day → List ℕ → Type 0
IsDayOfForm s form = IfOk (count_end form 0) (λ end. HasKeyLineForm s (heading_keys form end))

-- `part` is the first of the unread parts.
abbrev pub IsNextPart : List ℕ → PartsProperty
IsNextPart part p parts = (others : List (List ℕ)) × (parts ≡ part ∷ others)

-- All parts before `part` are read without a fault, and `letters` are their letters. `answer` is the fault of the
-- letters of `part`. `look` doesn't test for such a fault: it is in the part's indicators, or can be found only with
-- the day.
pub record IsRefusedForLetters (s : Day) (form : List ℕ) (answer : Result (List ℕ) FormFault) : Type 0 where
  pub part : List ℕ
  pub heading : Heading
  pub body : List ℕ
  pub fault : FormFault
  pub is_part : Contains (parts_of form) part
  pub letters : List ℕ
  pub before : ReadsPartsTo s (IsNextPart part) first_part_start (parts_of form) letters
  pub headed : HasHeading s part heading body
  pub found : IsLettersAnswer s heading.part heading.indicator (letters_from None body) (Err fault)
  pub answered : answer ≡ Err fault

-- If `look` finds a fault in a form, `receive` refuses the form. `receive` then names this fault, or a fault of a
-- part's letters.
abbrev pub FormFaultsAreThoseOfReceive : Type 0
FormFaultsAreThoseOfReceive =
    (s : Day) (form : List ℕ) (found : MessageFault) (answer : Result (List ℕ) FormFault) → IsDayOfForm s form
    → form_answer form ≡ Err found → IsFormAnswer s form answer
    → (answer ≡ Err found.fault) ⊎ IsRefusedForLetters s form answer

-- If `look` finds no fault in a form, `receive` reads the form. `receive` may instead refuse the form with a fault of
-- a part's letters.
abbrev pub FaultlessFormsAreReceived : Type 0
FaultlessFormsAreReceived =
    (s : Day) (form : List ℕ) (first : FormHeading) (answer : Result (List ℕ) FormFault) → IsDayOfForm s form
    → form_answer form ≡ Ok first → IsFormAnswer s form answer
    → ((text : List ℕ) × (answer ≡ Ok text)) ⊎ IsRefusedForLetters s form answer

-- `group` is the group in the body of `part`: the three letters after the two fillers.
pub record HasGroup (s : Day) (part group : List ℕ) : Type 0 where
  pub heading : Heading
  pub body : List ℕ
  pub headed : HasHeading s part heading body
  pub is : group ≡ group_of_body (letters_from None body)

-- `groups` are the groups in the bodies of `parts`: one for each part, in the order of the parts.
abbrev pub AreGroupsOfParts : Day → List (List ℕ) → List (List ℕ) → Type 0
AreGroupsOfParts s [] [] = Unit {0}
AreGroupsOfParts s (part ∷ parts) (group ∷ groups) = HasGroup s part group × AreGroupsOfParts s parts groups
AreGroupsOfParts s [] (group ∷ groups) = ⊥
AreGroupsOfParts s (part ∷ parts) [] = ⊥

-- If `look` finds no fault in a rotor machine's form, `look` names the groups in the bodies of the form's parts.
abbrev pub FormGroupsAreThoseOfBodies : Type 0
FormGroupsAreThoseOfBodies =
    (s : RotorDay) (form : List ℕ) (first : FormHeading) → IsDayOfForm (Rotor s) form → form_answer form ≡ Ok first
    → (groups : List (List ℕ)) × (message_of form ≡ Some (record { keys = first.keys; groups = groups }))
    × AreGroupsOfParts (Rotor s) (parts_of form) groups

-- If `look` finds no fault in a Converter's form, `look` names no group.
abbrev pub ConverterFormsHaveNoGroups : Type 0
ConverterFormsHaveNoGroups =
    (s : PinDay) (form : List ℕ) (first : FormHeading) → IsDayOfForm (Pin s) form → form_answer form ≡ Ok first
    → message_of form ≡ Some (record { keys = lines.Converter; groups = [] })

-- what `look` says of a form: success, or the fault, without the fault's place and reason
abbrev pub form_result : Result FormHeading MessageFault → Result (Unit {0}) FormFault
form_result (Ok first) = Ok tt
form_result (Err found) = Err found.fault

-- `look` judges a form as `receive` would without deciphering the form's letters. So a fault of the letters makes no
-- difference to what `look` says.
abbrev pub FormsAreSeenWithoutLetters : Type 0
FormsAreSeenWithoutLetters =
    (s : Day) (form : List ℕ) → IsDayOfForm s form → IsShownFormAnswer s form (form_result (form_answer form))

-- ---- The machine that a message is for.

-- If `send` makes a form of an order, `look` finds that the order is for the day's machine.
abbrev pub OrdersAreForTheirMachine : Type 0
OrdersAreForTheirMachine =
    (s : Day) (order form : List ℕ) → IsLegalDay s → IsFormOf s order form → HasKeyLineForm s (key_line_of order)

-- If `receive` reads a form, the form's first heading shows the day's machine, and `look` finds this machine.
abbrev pub FormsAreForTheirMachine : Type 0
FormsAreForTheirMachine =
    (s : Day) (form text : List ℕ) → IsLegalDay s → IsTextOf s form text
    → IsDayOfForm s form × ((first : FormHeading) × (form_answer form ≡ Ok first) × HasKeyLineForm s first.keys)

-- ---- The kind of a message: an order, or a form.

-- `look` takes a text for a form exactly if the text begins like a heading line.
abbrev pub FormsBeginWithHeadings : Type 0
FormsBeginWithHeadings = (text : List ℕ) → (is_message text && is_form text) ≡ begins_heading text

-- If `send` makes a form of an order, `look` takes the order for an order, and not for a form.
abbrev pub OrdersAreNoForms : Type 0
OrdersAreNoForms =
    (s : Day) (order form : List ℕ) → IsFormOf s order form → (is_message order ≡ true) × (is_form order ≡ false)
