-- Conditions in the contracts of private functions. No public contract cites these definitions.
use Rattle.std.specs.Prelude.{◌≡◌, ℕ, Bool, false, List, Option, Result, Ok, IfSome}
use Rattle.kd_tables.specs.Ports.{Port}
use Rattle.kd_state.specs.declared.machine.parts.Parts.{Parts}
use Rattle.kd_state.specs.SheetDay.{Day, day_number}
use Rattle.kd_sheet.specs.MachineFile.{machine_of}
use Rattle.kd_host.specs.Files.{KnownFile}
use Rattle.kd_command.specs.declared.command.Action.{Action}
use Rattle.kd_command.specs.declared.command.Task.{Task}
use Rattle.kd_desk.specs.declared.fault.DeskFault.{DeskFault}
use Rattle.kd_desk.specs.declared.stop.Stop.{Stop}
use Rattle.kd_command.specs.CommandLine.{task_stream, with_action_files, with_task_files}
use Rattle.kd_desk.specs.Month.{AreWritten, CardAndFile}
use Rattle.kd_desk.specs.OnDay.{IsAnswerOnDay, machine_and_day}
use Rattle.kd_desk.specs.Program.{DoesTask, KnownTask, file_port, has_file_failed}
use Rattle.kd_desk.specs.Stops.{stop_after}

-- ---- Reading and carrying out a part of a command. No public contract cites these definitions.

-- the task, with `g` applied to its streamed file, if it has one
abbrev pub with_task_stream : {F O P : Type 0} → (O → P) → Task F O → Task F P
with_task_stream g task = with_task_files (λ file. file) g task

-- the action, with `g` applied to its streamed file, if it has one
abbrev pub with_action_stream : {F O P : Type 0} → (O → P) → Action F O → Action F P
with_action_stream g action = with_action_files (λ file. file) g action

-- There is no opened file, or no read of the opened file has failed yet.
abbrev pub HasNoFailedRead : {O : Type 0} → (O → Bool) → Option O → Type 0
HasNoFailedRead failed file = IfSome file (λ f. failed f ≡ false)

-- The function for a task, such as `run_card`, was called with the machine file `machine` and day `number` of the key
-- sheet `sheet`. `answer` is the answer of this function, with a fault turned into a `Stop`. `left` is what is known of
-- the opened file after the call.
pub record IsTaskDone (left : KnownFile) (machine sheet : List ℕ) (number : ℕ) (task : KnownTask) (sink : Port)
    (answer : Result (Unit {0}) Stop) : Type 0 where
  pub told : Result (Unit {0}) DeskFault
  pub does : IsAnswerOnDay machine sheet number (DoesTask (with_task_stream (file_port left) task) number sink told)
      told
  pub answers : answer ≡ stop_after (has_file_failed (task_stream task) left) told

-- ---- Writing a day of a month. No public contract cites these definitions.

-- For the machine `m` and the day `s`, the desk can write a card and a machine file. The written file has the machine
-- `n`.
abbrev pub CanWriteDay : Parts → Day → Parts → Type 0
CanWriteDay m s n = (file sheet : List ℕ) → machine_and_day file sheet (day_number s) ≡ Ok (m, s)
    → (papers : CardAndFile) × AreWritten file sheet (day_number s) papers × (machine_of papers.file ≡ Ok n)
