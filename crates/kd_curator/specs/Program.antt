-- The program: which command the words mean, which files are read, and what is written.
-- Code: `run_curator` parses the words; `run_command` reads the files, and carries out the command.
-- Test: tests/cases/curator-pages.toml
use Rattle.std.specs.Prelude.{◌≡◌, ◌⊎◌, ◌+◌, ◌≤◌, ◌||◌, not, ℕ, Bool, true, false, List, [], drop, length, Option, None, IfSome}
use Rattle.std.specs.Prelude.{Result, Ok, Err, IsTrue}
use Rattle.std.specs.Io.KnownBytes.{append_known}
use Rattle.clap.specs.Words.{IsAmong, fault_of}
use Rattle.clap.specs.declared.error.kind.ErrorKind.{ErrorKind}
use Rattle.kd_host.specs.declared.file_fault.FileFault.{FileFault}
use Rattle.kd_host.specs.declared.file_fault.FileFault.TheVariants as files
use Rattle.kd_tables.specs.Answers.{AgreesOrNoMemory}
use Rattle.kd_host.specs.Files.{AreAskedFor, AskedName}
use Rattle.kd_host.specs.Writing.{WritesText}
use Rattle.kd_new_file.specs.declared.why_unread.WhyUnread.{WhyUnread}
use Rattle.kd_spreadsheet.specs.EmptySheet.{empty_month_text}
use Rattle.kd_state.specs.Machine.{model_of}
use Rattle.kd_tables.specs.Ports.{Port}
use Rattle.kd_curator_command.specs.CommandLine.{AsksForHelp, IsCommandLineOf, IsNoCommandLine, NamedCommand}
use Rattle.kd_curator_command.specs.CommandLine.{chosen_language, curator_grammar}
use Rattle.kd_curator_command.specs.CommandLine.{is_help}
use Rattle.kd_curator_command.specs.Locale.{language_without_command}
use Rattle.kd_curator.specs.Ending.{EndsAs, blame_of, memory_stop, stop_after}
use Rattle.kd_curator.specs.Files.{contents_of, names_of, text_at}
use Rattle.kd_curator.specs.MachineAndSheet.{IsAnswerOn, IsAnswerOnSheet, machine_in}
use Rattle.kd_curator.specs.Looks.{Looks, named_texts}
use Rattle.kd_curator.specs.Notes.{HasNotes, IsLeftAlone}
use Rattle.kd_curator.specs.Refusals.{comes_after_writing, is_after_all, is_device_fault, refused_device, refused_unread}
use Rattle.kd_language.specs.declared.language.Language.{Language}
use Rattle.kd_pictures.specs.declared.results.Results.{Results}
use Rattle.kd_curator.specs.RunList.{WritesList}
use Rattle.kd_curator.specs.RunOrders.{SendsOrders, order_texts}
use Rattle.kd_curator.specs.RunPage.{WritesPages, wanted_days}
use Rattle.kd_curator.specs.RunReceive.{WritesReceivePage}
use Rattle.kd_curator.specs.RunSend.{WritesSendPage}
use Rattle.kd_curator.specs.RunType.{WritesTypingPage}
use Rattle.kd_sheet.specs.Sheet.{day_of}
use Rattle.kd_state.specs.SheetDay.{Day}
use Rattle.kd_state.specs.declared.machine.parts.Parts.{Parts}
use Rattle.kd_tables.specs.declared.direction.Direction.{Direction}
use Rattle.kd_tables.specs.declared.direction.Direction.TheVariants.{Receive, Send}
use Rattle.kd_curator_command.specs.declared.command.MessageTask.{MessageTask}
use Rattle.kd_curator.specs.Sheets.{MakesSheet}
use Rattle.kd_curator.specs.Tables.{WritesTables}
use Rattle.kd_curator_command.specs.declared.command.Command.TheVariants as commands
use Rattle.kd_curator_command.specs.declared.command.Task.{Task}
use Rattle.kd_curator_command.specs.declared.command.Task.TheVariants as tasks
use Rattle.kd_curator.specs.declared.fault.Refused.{Refused}
use Rattle.kd_curator.specs.declared.stop.Stop.{Stop}
use Rattle.kd_curator.specs.declared.stop.Stop.TheVariants as stops

-- The task writes its output to `sink`, and its answer is `answer`. `machine` and `sheet` are the bytes of the machine
-- file and the key sheet. `name` is the name of the key sheet's file. Words are in language `l`.
abbrev pub DoesTask : Language → Task → List ℕ → List ℕ → List ℕ → Port → Result (Unit {0}) Refused → Type 0
DoesTask l (tasks.Page days) name machine sheet sink answer = IsAnswerOnSheet machine sheet
    (λ m month. WritesPages l name month m (wanted_days days (model_of m) month) sink answer) answer
DoesTask l (tasks.List day) name machine sheet sink answer = IsAnswerOnSheet machine sheet
    (λ m month. WritesList month m day sink answer) answer

-- A message is sent or received: the output goes to the sink, and `answer` is the command's answer. `day` is the
-- message's day; `None` if the sheet doesn't have it.
abbrev pub WritesMessage : Direction → Results → Language → Option Day → Parts → List ℕ → Port
    → Result (Unit {0}) Refused → Type 0
WritesMessage Send results l day m order sink answer =
    WritesSendPage results l day m order sink answer
WritesMessage Receive results l day m form sink answer =
    WritesReceivePage results l day m form sink answer

-- The task writes its output to `sink`, and its answer is `answer`. `machine`, `sheet` and `message` are the bytes of
-- the machine file, the key sheet and the message. Words are in language `l`.
abbrev pub WorksMessage : Language → MessageTask → List ℕ → List ℕ → List ℕ → Port → Result (Unit {0}) Refused → Type 0
WorksMessage l task machine sheet message sink answer = IsAnswerOnSheet machine sheet
    (λ m month. WritesMessage task.direction task.results l (day_of month task.day) m message sink answer)
    answer

-- The command writes its output to `sink`, and its answer is `answer`. `texts` are the bytes of the command's files, in
-- the order of the files. Words are in language `l`.
abbrev pub DoesCommand : Language → NamedCommand → List (List ℕ) → Port → Result (Unit {0}) Refused → Type 0
DoesCommand l (commands.OnMachine machine sheet task) texts sink answer =
    DoesTask l task sheet (text_at texts 0) (text_at texts 1) sink answer
DoesCommand l (commands.Message machine sheet message task) texts sink answer =
    WorksMessage l task (text_at texts 0) (text_at texts 1) (text_at texts 2) sink answer
DoesCommand l (commands.Orders machine sheet orders task) texts sink answer =
    SendsOrders l task (text_at texts 0) (text_at texts 1) (order_texts orders.items (drop 2 texts)) sink answer
DoesCommand l (commands.TypingPage machine) texts sink answer =
    IsAnswerOn (machine_in (text_at texts 0)) (λ m. WritesTypingPage l m sink answer) answer
DoesCommand l (commands.Table sheet form) texts sink answer = WritesTables l form (text_at texts 0) sink answer
DoesCommand l (commands.Sheet table options) texts sink answer = MakesSheet options (text_at texts 0) sink answer
DoesCommand l (commands.Look files) texts sink answer = Looks l (named_texts files.items texts) sink answer
DoesCommand l (commands.EmptySheet model days) texts sink answer =
    WritesText refused_device (empty_month_text model days) sink answer

-- The command writes its output to `sink` and its notes to `errors`, and its answer is `answer`. `texts` are the bytes
-- of the command's files, in the order of the files. Words are in language `l`.
abbrev pub RunsCommand : Language → NamedCommand → List (List ℕ) → Port → Port → Result (Unit {0}) Refused → Type 0
RunsCommand l command texts sink errors answer =
    DoesCommand l command texts sink answer × HasNotes l command texts answer errors

-- ---- The program's answer.

-- Whether the whole output was written. This is so in three cases: the program succeeds, or files that were looked at
-- have faults, or a form isn't one whole message.
abbrev pub is_whole : Result (Unit {0}) Stop → Bool
is_whole (Ok done) = true
is_whole (Err (stops.Refused refused)) = is_after_all refused.fault
is_whole (Err (stops.Usage text)) = false

-- The program's answer after the gathered bytes were passed on to the sink. If the sink took all bytes, the answer is
-- `first`, as before. If the sink didn't take the bytes `left`, the answer is `Device`.
abbrev pub IsFlushed : List ℕ → Result (Unit {0}) Stop → Result (Unit {0}) Stop → Type 0
IsFlushed left first answer =
    ((answer ≡ first) × (left ≡ [])) ⊎ ((answer ≡ Err (stops.Refused refused_device)) × (1 ≤ length left))

-- The program's answer after a command that gave the answer `first`. The truth value says whether the gathered bytes
-- were passed on to the sink after the command. The answer is `Device` if they were passed on, and the sink didn't take
-- all of them. Otherwise, the answer is `first`.
abbrev pub AnswersAfter : Bool → List ℕ → Result (Unit {0}) Stop → Result (Unit {0}) Stop → Type 0
AnswersAfter true left first answer = IsFlushed left first answer
AnswersAfter false left first answer = answer ≡ first

-- The program's answer after a command that gave the answer `first`. If the command wrote its whole output, the program
-- passes the gathered bytes on to the sink. In this case, `left` has the bytes that the sink didn't take, and the
-- answer is `Device` if `left` isn't empty.
abbrev pub IsAnswerAfterFlush : List ℕ → Result (Unit {0}) Stop → Result (Unit {0}) Stop → Type 0
IsAnswerAfterFlush left first answer = AnswersAfter (is_whole first) left first answer

-- `told` is a command's answer that satisfies `Does`. `answer` is the program's answer after this command. `left` has
-- the bytes that the sink didn't take.
pub record IsTold (Does : Result (Unit {0}) Refused → Type 0) (left : List ℕ) (answer : Result (Unit {0}) Stop)
    : Type 0 where
  pub told : Result (Unit {0}) Refused
  pub does : Does told
  pub answers : IsAnswerAfterFlush left (stop_after told) answer

-- whether the answer says that the command line means no command
abbrev pub is_usage : Result (Unit {0}) Stop → Bool
is_usage (Err (stops.Usage text)) = true
is_usage _ = false

-- How a command line is carried out. `errors` is standard error until the program's answer was known.
-- - `Carried`: the line's command was carried out, with the bytes `texts` of its files. Words are in language `l`,
--   unless the line asks for another language.
-- - `FileUnread`: a file of the command couldn't be read. The program asked for no later file, and the answer has a
--   remark on the unread file.
-- - `Shown`: the words ask for help or for the version.
-- - `OtherWords`: the words don't mean a command.
-- - `NoMemory`: memory ran out before the program asked for a file.
pub data CarriesOut (l : Language) (words : List (List ℕ)) (known : Option (List ℕ → Option (List ℕ))) (asked : List AskedName)
    (sink errors : Port) (left : List ℕ) (answer : Result (Unit {0}) Stop) : Type 0 where
  Carried : (command : NamedCommand) → IsCommandLineOf words command → (texts : List (List ℕ))
      → length texts ≡ length (names_of command)
      → IfSome known (λ held. AgreesOrNoMemory files.NoMemory (contents_of held (names_of command)) (Ok texts))
      → AreAskedFor (names_of command) [] asked true
      → IsTold (RunsCommand (chosen_language l words) command texts sink errors) left answer
      → CarriesOut l words known asked sink errors left answer
  FileUnread : (command : NamedCommand) → IsCommandLineOf words command → (fault : FileFault) (place : ℕ)
      (why : WhyUnread)
      → IfSome known (λ held. AgreesOrNoMemory files.NoMemory (contents_of held (names_of command)) (Err fault))
      → AreAskedFor (names_of command) [] asked false → length asked ≡ place + 1
      → answer ≡ Err (stops.Refused (refused_unread place fault why)) → IsLeftAlone errors
      → CarriesOut l words known asked sink errors left answer
  Shown : (text : List ℕ) (kind : ErrorKind) → IsAmong kind (fault_of curator_grammar words) → IsTrue (is_help kind)
      → asked ≡ [] → IsTold (WritesText refused_device text sink) left answer → IsLeftAlone errors
      → CarriesOut l words known asked sink errors left answer
  OtherWords : IsNoCommandLine words → ¬ (AsksForHelp words) → asked ≡ [] → IsTrue (is_usage answer)
      → IsLeftAlone errors → CarriesOut l words known asked sink errors left answer
  NoMemory : asked ≡ [] → answer ≡ Err memory_stop → IsLeftAlone errors
      → CarriesOut l words known asked sink errors left answer

-- whether the program stopped because a write to standard output failed
abbrev pub is_stopped_by_device : Result (Unit {0}) Stop → Bool
is_stopped_by_device (Err (stops.Refused refused)) = is_device_fault refused.fault
is_stopped_by_device _ = false

-- whether the program stopped before it wrote anything to the sink
abbrev pub is_stopped_before_writing : Result (Unit {0}) Stop → Bool
is_stopped_before_writing (Ok done) = false
is_stopped_before_writing (Err (stops.Refused refused)) = not (comes_after_writing refused.fault)
is_stopped_before_writing (Err stop) = true

-- The program's answer to a command line.
-- - `carried`: how the command line is carried out. Standard error has only the command's notes, if there are any.
-- - `untouched`: if the program stops before it writes, the sink is untouched.
-- - `failed`: the sink has failed exactly if it had failed before, or the answer says that a write failed.
pub record IsRun (l : Language) (words : List (List ℕ)) (known : Option (List ℕ → Option (List ℕ))) (asked : List AskedName)
    (sink : Port) (Untouched : Type 0) (errors : Port) (left : List ℕ) (answer : Result (Unit {0}) Stop)
    : Type 0 where
  pub carried : CarriesOut l words known asked sink errors left answer
  pub untouched : IsTrue (is_stopped_before_writing answer) → Untouched
  pub failed : sink.has_failed ≡ (sink.had_failed || is_stopped_by_device answer)

-- A sink before and after a call. The bytes `left` were gathered, but not taken by the sink; here, they count as taken.
abbrev pub port_with_untaken : {P : Type 0} → (P → Option (List ℕ)) → (P → Bool) → P → P → List ℕ → Port
port_with_untaken bytes failed old new left = record {
  had = bytes old;
  has = append_known (bytes new) left;
  had_failed = failed old;
  has_failed = failed new;
}

-- Standard error as a port, from the start of the program's call until the answer was known. By then, standard error
-- had taken `told`.
abbrev pub at_first : Port → Option (List ℕ) → Bool → Port
at_first errors told failed = record errors { has = told; has_failed = failed }

-- standard error as a port, from the time when the answer was known until the end of the program's call
abbrev pub at_last : Port → Option (List ℕ) → Bool → Port
at_last errors told failed = record errors { had = told; had_failed = failed }

-- Either `names` are the names of the files in the command line, or the answer has no remark on a file.
abbrev pub AreNamesFor : List (List ℕ) → List (List ℕ) → Result (Unit {0}) Stop → Type 0
AreNamesFor words names answer =
    ((command : NamedCommand) × IsCommandLineOf words command × (names ≡ names_of command)) ⊎ (blame_of answer ≡ None)

-- The words mean no command, or memory ran out before a command was known. The program asked for no file.
abbrev pub LacksCommand : List (List ℕ) → List AskedName → Result (Unit {0}) Stop → Type 0
LacksCommand words asked answer = (asked ≡ []) × (IsNoCommandLine words ⊎ (answer ≡ Err memory_stop))

-- `language` is the language of the program's answer on standard error, on a computer with the language `l`. Either
-- the words mean a command, and `language` is the command line's language. Or no command is known, and `language` is
-- the language that the first option `--in` names, otherwise `l`.
abbrev pub IsLanguageFor : Language → List (List ℕ) → List AskedName → Result (Unit {0}) Stop → Language → Type 0
IsLanguageFor l words asked answer language =
    ((command : NamedCommand) × IsCommandLineOf words command × (language ≡ chosen_language l words))
    ⊎ (LacksCommand words asked answer × (language ≡ language_without_command l words))

-- The program's answer satisfies `IsSo`. The program ends with the text and the exit status for this answer. `left` are
-- the gathered bytes that the sink didn't take. When the answer was known, standard error had taken the bytes `told`,
-- and `failed` says whether standard error had failed. `names` are the names of the command's files. `language` is the
-- text's language, on a computer with the language `l`.
pub record HasEnded (l : Language) (words : List (List ℕ)) (asked : List AskedName)
    (IsSo : Port → List ℕ → Result (Unit {0}) Stop → Type 0) (errors : Port) (status : ℕ) : Type 0 where
  pub left : List ℕ
  pub answer : Result (Unit {0}) Stop
  pub told : Option (List ℕ)
  pub failed : Bool
  pub names : List (List ℕ)
  pub language : Language
  pub is_so : IsSo (at_first errors told failed) left answer
  pub named : AreNamesFor words names answer
  pub spoken : IsLanguageFor l words asked answer language
  pub ends : EndsAs language names answer (at_last errors told failed) status

-- ---- What inner functions require and tell. No public contract cites these definitions.

-- If the command writes a sheet to fill in, the sheet has at most 31 days.
abbrev pub HasMonth : NamedCommand → Type 0
HasMonth (commands.EmptySheet model days) = days ≤ 31
HasMonth _ = Unit {0}
