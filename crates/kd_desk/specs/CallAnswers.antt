-- Answers that a call may give: lack of memory, a fault, a refusal before anything was written, or a failed device.
-- Test: tests/cases/desk-program.toml
use Rattle.std.specs.Prelude.{◌≡◌, ◌⊎◌, Bool, true, false, Result, Ok, Err}
use Rattle.kd_sheet.specs.declared.fault.SheetFault.TheVariants.{NoMemory}
use Rattle.kd_desk.specs.declared.fault.DeskFault.{DeskFault}
use Rattle.kd_desk.specs.declared.fault.DeskFault.TheVariants.{File, Device, ReadTooLong, Message}
use Rattle.kd_form.specs.Streams.{is_off_key}

-- The answer is `NoMemory`. Whether memory has really run out is left open.
abbrev pub LacksMemory : {A : Type 0} → Result A DeskFault → Type 0
LacksMemory answer = answer ≡ Err (File NoMemory)

-- The answer is `fault`, or it is `NoMemory`.
abbrev pub AnswersFault : Result (Unit {0}) DeskFault → DeskFault → Type 0
AnswersFault answer fault = (answer ≡ Err fault) ⊎ LacksMemory answer

-- whether a call was refused before it read a message (a text, an order or a form) or wrote anything
abbrev pub is_refused_before_message : Result (Unit {0}) DeskFault → Bool
is_refused_before_message (Ok _) = false
is_refused_before_message (Err Device) = false
is_refused_before_message (Err ReadTooLong) = false
is_refused_before_message (Err (Message fault)) = is_off_key (Err fault)
is_refused_before_message (Err _) = true

abbrev pub is_device : Result (Unit {0}) DeskFault → Bool
is_device (Err Device) = true
is_device _ = false
