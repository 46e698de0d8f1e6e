-- How the program reads and opens a command's files, carries the command out, and answers.
-- Code: `read_files` reads or opens one file after another, and returns the first fault.
-- Test: tests/cases/desk-program.toml
use Rattle.std.specs.Prelude.{◌≡◌, ◌⊎◌, ℕ, Bool, true, false, List, [], Option, None, Some, IfSome}
use Rattle.std.specs.Prelude.{Result, Ok, Err, IfOk, IfErr, IsTrue}
use Rattle.kd_sheet.specs.declared.fault.SheetFault.TheVariants.{NoMemory}
use Rattle.kd_sheet.specs.MachineFile.{machine_of}
use Rattle.kd_state.specs.declared.machine.parts.Parts.{Parts}
use Rattle.kd_state.specs.SheetDay.{Day}
use Rattle.kd_command.specs.CommandLine.{IsCommandLineOf, IsNoCommandLine, files_of, NamedCommand, NamedAction, NamedTask}
use Rattle.kd_command.specs.CommandLine.{with_command_stream, command_stream}
use Rattle.kd_command.specs.declared.command.Command.{Command}
use Rattle.kd_command.specs.declared.command.Action.{Action}
use Rattle.kd_command.specs.declared.command.Action.TheVariants as actions
use Rattle.kd_command.specs.declared.command.Task.{Task}
use Rattle.kd_command.specs.declared.command.Task.TheVariants as tasks
use Rattle.kd_tables.specs.declared.direction.Direction.TheVariants.{Send, Receive}
use Rattle.kd_desk.specs.declared.fault.DeskFault.{DeskFault}
use Rattle.kd_desk.specs.declared.fault.DeskFault.TheVariants.{File}
use Rattle.kd_host.specs.declared.file_fault.FileFault.{FileFault}
use Rattle.kd_host.specs.declared.file_fault.FileFault.TheVariants as files
use Rattle.kd_desk.specs.declared.stop.Stop.{Stop}
use Rattle.kd_desk.specs.declared.stop.Stop.TheVariants.{Usage, Unread, ReadFailed, Refused}
use Rattle.kd_host.specs.Files.{AskedName, AreAskedFor, KnownFile, content_of, opening_of}
use Rattle.kd_desk.specs.Stops.{stop_after}
use Rattle.kd_tables.specs.Ports.{Port, FailureAgrees}
use Rattle.kd_desk.specs.Ending.{EndsAs}
use Rattle.kd_form.specs.Streams.{IsUntouched}
use Rattle.kd_desk.specs.Messages.{TypesText, Sends, Receives}
use Rattle.kd_desk.specs.OnDay.{IsAnswerOnDay}
use Rattle.kd_desk.specs.RunApply.{Applies}
use Rattle.kd_desk.specs.RunCard.{IsChosenCard, Prints}
use Rattle.kd_desk.specs.RunCheck.{Checks}
use Rattle.kd_desk.specs.CallAnswers.{LacksMemory, AnswersFault, is_refused_before_message, is_device}

-- A task with its file, if it needs one: the bytes of a card, or what is known of an opened order or form.
abbrev pub KnownTask : Type 0
KnownTask = Task (List ℕ) KnownFile

abbrev pub KnownAction : Type 0
KnownAction = Action (List ℕ) KnownFile

abbrev pub KnownCommand : Type 0
KnownCommand = Command (List ℕ) KnownFile

-- what `made` gives for the file, or the fault if the file couldn't be read or opened
abbrev pub with_file : {F X : Type 0} → Result F FileFault → (F → Result X FileFault) → Result X FileFault
with_file (Ok file) made = made file
with_file (Err fault) made = Err fault

-- the task with what is known of its file, or the fault if the file can't be read or opened
abbrev pub known_task : (List ℕ → Option (List ℕ)) → NamedTask → Result KnownTask FileFault
known_task held tasks.Card = Ok tasks.Card
known_task held (tasks.Check card) = with_file (content_of (held card)) (λ bytes. Ok (tasks.Check bytes))
known_task held (tasks.Message direction file) = with_file (opening_of (held file))
    (λ known. Ok (tasks.Message direction known))

abbrev pub known_action : (List ℕ → Option (List ℕ)) → NamedAction → Result KnownAction FileFault
known_action held actions.Type = Ok actions.Type
known_action held (actions.Apply list) = with_file (content_of (held list)) (λ bytes. Ok (actions.Apply bytes))
known_action held (actions.OnDay sheet day task) =
    with_file (content_of (held sheet)) (λ bytes. with_file (known_task held task)
    (λ t. Ok (actions.OnDay bytes day t)))

abbrev pub known_command : (List ℕ → Option (List ℕ)) → NamedCommand → Result KnownCommand FileFault
known_command held command =
    with_file (content_of (held command.machine))
    (λ bytes. with_file (known_action held command.action) (λ a. Ok (record { machine = bytes; action = a })))

-- ---- What each command does, as the contract of its function promises.

-- Either a text was typed on the machine of a machine file, or the machine file was refused, or memory ran out.
pub record TypesOn (machine : List ℕ) (source sink : Port) (answer : Result (Unit {0}) DeskFault) : Type 0 where
  pub refused : IfErr (machine_of machine) (λ fault. AnswersFault answer (File fault))
  pub typed : IfOk (machine_of machine) (λ m. TypesText m source sink answer ⊎ LacksMemory answer)

-- Either the bytes `list` were applied to the machine of a machine file, or the machine file was refused, or memory ran
-- out.
pub record AppliesTo (machine list : List ℕ) (sink : Port) (answer : Result (Unit {0}) DeskFault) : Type 0 where
  pub refused : IfErr (machine_of machine) (λ fault. AnswersFault answer (File fault))
  pub applied : IfOk (machine_of machine) (λ m. Applies m list sink answer ⊎ LacksMemory answer)

-- A task was carried out with the machine `m` and the day `s`, whose number is `number`. For `Message`, the order or
-- the form is read from a port.
abbrev pub DoesTask : Task (List ℕ) Port → ℕ → Port → Result (Unit {0}) DeskFault → Parts → Day → Type 0
DoesTask tasks.Card number sink answer m s = Prints (IsChosenCard m s number) m s number sink answer
DoesTask (tasks.Check card) number sink answer m s = Checks m s number card sink answer
DoesTask (tasks.Message Send order) number sink answer m s = Sends m s order sink answer
DoesTask (tasks.Message Receive form) number sink answer m s = Receives m s form sink answer

-- An action was carried out with the machine of the machine file `machine`. Only the action `Type` reads `source`.
abbrev pub DoesAction : List ℕ → Action (List ℕ) Port → Port → Port → Result (Unit {0}) DeskFault → Type 0
DoesAction machine actions.Type source sink answer = TypesOn machine source sink answer
DoesAction machine (actions.Apply list) source sink answer = AppliesTo machine list sink answer × IsUntouched source
DoesAction machine (actions.OnDay sheet day task) source sink answer =
    IsAnswerOnDay machine sheet day (DoesTask task day sink answer) answer × IsUntouched source

-- A command was carried out with the bytes of its files.
abbrev pub DoesCommand : Command (List ℕ) Port → Port → Port → Result (Unit {0}) DeskFault → Type 0
DoesCommand command source sink answer = DoesAction command.machine command.action source sink answer

-- ---- How a command is carried out, and what is left of the file that it opened.

-- the opened file as a port. `file` is what is known of the file before a call, and `left` is what is known after the
-- call.
abbrev pub file_port : KnownFile → KnownFile → Port
file_port left file = record { had = file.bytes; has = left.bytes; had_failed = file.failed; has_failed = left.failed }

-- Whether a command opened a file, and a read of the file failed. `left` is what is known of the file after the call.
abbrev pub has_file_failed : Option KnownFile → KnownFile → Bool
has_file_failed None left = false
has_file_failed (Some file) left = left.failed

-- The program's answer is that memory ran out.
abbrev pub StopsForMemory : Result (Unit {0}) Stop → Type 0
StopsForMemory answer = (answer ≡ Err (Refused (File NoMemory))) ⊎ (answer ≡ Err (Unread files.NoMemory))

-- The function for a command, such as `run_card`, was called. `answer` is the answer of this function, with a fault
-- turned into a `Stop`. `left` is what is known of the opened file after the call.
pub record IsCommandDone (left : KnownFile) (command : KnownCommand) (source sink : Port)
    (answer : Result (Unit {0}) Stop) : Type 0 where
  pub told : Result (Unit {0}) DeskFault
  pub does : DoesCommand (with_command_stream (file_port left) command) source sink told
  pub answers : answer ≡ stop_after (has_file_failed (command_stream command) left) told

-- Either a command was carried out, or a file of the command couldn't be read or opened, or memory ran out.
abbrev pub CarriesOut : KnownFile → Result KnownCommand FileFault → Port → Port → Result (Unit {0}) Stop → Type 0
CarriesOut left (Ok command) source sink answer =
    IsCommandDone left command source sink answer ⊎ StopsForMemory answer
CarriesOut left (Err fault) source sink answer = (answer ≡ Err (Unread fault)) ⊎ StopsForMemory answer

-- ---- Conditions on the program's answer, on the files that it asked for, and on the ports.

-- whether the program stopped before it read a message (a text, an order or a form) or wrote anything
abbrev pub is_stopped_before_message : Result (Unit {0}) Stop → Bool
is_stopped_before_message (Ok _) = false
is_stopped_before_message (Err Usage) = true
is_stopped_before_message (Err (Unread _)) = true
is_stopped_before_message (Err ReadFailed) = false
is_stopped_before_message (Err (Refused fault)) = is_refused_before_message (Err fault)

-- whether the program stopped because standard input or output failed
abbrev pub is_stopped_by_port : Result (Unit {0}) Stop → Bool
is_stopped_by_port (Err (Refused fault)) = is_device (Err fault)
is_stopped_by_port _ = false

-- `asked` has the names of the files that the program asked for:
-- - if the answer is `Usage`, no names;
-- - if the answer is `Unread`, the names up to and including the first file that couldn't be read or opened;
-- - otherwise all names, or no names if memory ran out while the command line was read.
abbrev pub AsksFor : List (List ℕ) → List AskedName → Result (Unit {0}) Stop → Type 0
AsksFor names asked (Err Usage) = asked ≡ []
AsksFor names asked (Err (Unread fault)) = AreAskedFor names [] asked false
AsksFor names asked (Err (Refused fault)) = AreAskedFor names [] asked true ⊎ ((asked ≡ []) × (fault ≡ File NoMemory))
AsksFor names asked answer = AreAskedFor names [] asked true

-- Suppose that the bytes of the files are known. Then the command is carried out with these bytes, or a file can't be
-- read or opened, or memory ran out.
abbrev pub CarriesOutKnown : KnownFile → Option (List ℕ → Option (List ℕ)) → NamedCommand → Port → Port
    → Result (Unit {0}) Stop → Type 0
CarriesOutKnown left known command source sink answer =
    IfSome known (λ held. CarriesOut left (known_command held command) source sink answer)

-- How the program answers the command line `words`. `left` is what is known of the opened file at the end.
-- - `carried`: if the files' bytes are known, the command is carried out.
-- - `asks`, `none_asked`: which files the program asks for.
-- - `usage`, `other_words`: when the answer is `Usage`.
-- - `untouched`, `failed`: what happens to the ports.
pub record IsRun (words : List (List ℕ)) (known : Option (List ℕ → Option (List ℕ))) (left : KnownFile)
    (asked : List AskedName) (source sink : Port) (Untouched : Type 0) (answer : Result (Unit {0}) Stop) : Type 0 where
  pub carried : (command : NamedCommand) → IsCommandLineOf words command
      → CarriesOutKnown left known command source sink answer
  pub asks : (command : NamedCommand) → IsCommandLineOf words command → AsksFor (files_of command) asked answer
  pub usage : answer ≡ Err Usage → IsNoCommandLine words
  pub other_words : IsNoCommandLine words → (answer ≡ Err Usage) ⊎ StopsForMemory answer
  pub none_asked : IsNoCommandLine words → asked ≡ []
  pub untouched : IsTrue (is_stopped_before_message answer) → Untouched
  pub failed : FailureAgrees source sink (is_stopped_by_port answer)

-- The program's answer satisfies `IsSo`. The program ended with the line and the exit status for this answer.
pub record HasEnded (IsSo : Result (Unit {0}) Stop → Type 0) (errors : Port) (status : ℕ) : Type 0 where
  pub answer : Result (Unit {0}) Stop
  pub is_so : IsSo answer
  pub ends : EndsAs answer errors status
