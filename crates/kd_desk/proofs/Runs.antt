-- Files that are read one after another, and the program's answer to a command.
use Rattle.kd_desk.specs.{Program.is_stopped_before_message, CallAnswers.is_refused_before_message, Stops.stop_after}
use Rattle.kd_command.specs.CommandLine.{files_of}
use Rattle.kd_desk.specs.declared.{fault.DeskFault.DeskFault, fault.DeskFault.TheVariants.{Device, File}}
use Rattle.kd_desk.specs.declared.stop.Stop.TheVariants.{ReadFailed, Refused}
use Rattle.kd_sheet.specs.declared.fault.SheetFault.TheVariants.{NoMemory}
use Rattle.kd_host.proofs.Failing.{err_is}
use Rattle.kd_host.specs.declared.file_fault.FileFault.TheVariants as files
use Rattle.{kd_host.specs.declared.file_fault.FileFault.FileFault, std.proofs.Common.arith}
use Rattle.kd_desk.proofs.Prelude.{◌≡◌, ℕ, Bool, true, false, List, [], Option, Some, None, IfSome}
use Rattle.kd_desk.proofs.Prelude.{IsErr, Result, Ok, Err, IsErrAnd, IsTrue, refl, sym, ◌∙◌, subst}
use Rattle.kd_desk.proofs.Prelude.{inl, inr, Stop, Unread, NamedCommand, KnownCommand, known_command, AreAskedFor, AsksFor, AskedName}
use Rattle.kd_desk.proofs.Prelude.{CarriesOut, IsCommandDone}
use Rattle.kd_desk.proofs.Prelude.{AgreesOrNoMemory, KnownFile, Port, ◌≢◌, Usage}

-- the bytes of each file by its name, or `None` if they aren't known
abbrev KnownFiles : Type 0
KnownFiles = Option (List ℕ → Option (List ℕ))

-- ---- what the program asks for

module _ (names : List (List ℕ)) (asked : List AskedName) where
  abbrev Asks : Result (Unit {0}) Stop → Type 0
  Asks = AsksFor names asked

  pub asked_none : (answer : Result (Unit {0}) Stop) (stop : Stop) → IsErrAnd answer (λ made. made ≡ stop)
      → (stop ≢ Usage → stop ≡ Refused (File NoMemory)) → asked ≡ [] → Asks answer
  asked_none answer Usage made memory none = subst Asks (sym (err_is answer Usage made)) none
  asked_none answer (Unread fault) made memory none = cc (memory (λ e. cc e))
  asked_none answer ReadFailed made memory none = cc (memory (λ e. cc e))
  asked_none answer (Refused fault) made memory none =
      subst Asks (sym (err_is answer (Refused fault) made)) (inr (none, grind (arith, memory)))

  pub asked_yet : (answer : Result (Unit {0}) Stop) (fault : FileFault) → IsErrAnd answer (λ made. made ≡ Unread fault)
      → AreAskedFor names [] asked false → Asks answer
  asked_yet answer fault made asks = subst Asks (sym (err_is answer (Unread fault) made)) asks

  asks_after : (file_failed : Bool) (told : Result (Unit {0}) DeskFault) → AreAskedFor names [] asked true
      → Asks (stop_after file_failed told)
  asks_after file_failed (Ok done) asks = asks
  asks_after true (Err Device) asks = asks
  asks_after file_failed (Err fault) asks = inl asks

  pub asked_all : (left : KnownFile) (command : KnownCommand) (source sink : Port) (answer : Result (Unit {0}) Stop)
      → IsCommandDone left command source sink answer → AreAskedFor names [] asked true → Asks answer
  asked_all left command source sink answer done asks = subst Asks (sym done.answers) (asks_after _ done.told asks)

-- If only the files of `said` were asked for, and `command` is the same command, then only the files of `command` were.
pub asked_for : (said command : NamedCommand) → said ≡ command → (before asked after : List AskedName) (read : Bool)
    → before ≡ [] → after ≡ asked → AreAskedFor (files_of said) before asked read
    → AreAskedFor (files_of command) [] after read
asked_for said command same before asked after read first last asks =
    subst (λ n. AreAskedFor (files_of n) [] after read) same
    (subst (λ b. AreAskedFor (files_of said) b after read) first
    (subst (λ a. AreAskedFor (files_of said) before a read) (sym last) asks))

-- ---- the program's answer

abbrev failed_command : FileFault → Result KnownCommand FileFault
failed_command fault = Err fault

abbrev unread_answer : FileFault → Result (Unit {0}) Stop
unread_answer fault = Err (Unread fault)

module _ (left : KnownFile) (source sink : Port) (answer : Result (Unit {0}) Stop) where
  unread_by : (fault other : FileFault) → failed_command fault ≡ failed_command other → answer ≡ Err (Unread fault)
      → answer ≡ Err (Unread other)
  unread_by fault other is answers =
      answers ∙ subst (λ (r : Result KnownCommand FileFault). IsErrAnd r
      (λ f. unread_answer fault ≡ unread_answer f)) is refl

  file_refused : (meant : Result KnownCommand FileFault) (fault : FileFault) → AgreesOrNoMemory files.NoMemory meant (Err fault)
      → answer ≡ Err (Unread fault) → CarriesOut left meant source sink answer
  file_refused meant fault e d = grind (arith, unread_by)

  carried_out : (meant : Result KnownCommand FileFault) (command : KnownCommand) → AgreesOrNoMemory files.NoMemory meant (Ok command)
      → IsCommandDone left command source sink answer → CarriesOut left meant source sink answer
  carried_out meant command (inl is) done = subst (λ r. CarriesOut left r source sink answer) is (inl done)
  carried_out meant command (inr lacks) done = cc

  -- each command that the command line means is the parsed command, whatever is known of the files
  module _ (known : KnownFiles) (said command : NamedCommand) (same : said ≡ command) where
    abbrev Meant : (List ℕ → Option (List ℕ)) → Type 0
    Meant held = CarriesOut left (known_command held command) source sink answer

    pub unread : (fault : FileFault) → IsErrAnd answer (λ made. made ≡ Unread fault)
        → IfSome known (λ held. AgreesOrNoMemory files.NoMemory (known_command held said) (Err fault)) → IfSome known Meant
    unread fault made gives = grind (arith, err_is, file_refused, same)

    done_of : (of_files : KnownCommand) → IsCommandDone left of_files source sink answer → (k : KnownFiles)
        → IfSome k (λ held. AgreesOrNoMemory files.NoMemory (known_command held said) (Ok of_files)) → IfSome k Meant
    done_of of_files done None gives = tt
    done_of of_files done (Some held) gives = grind (arith, carried_out, same, done)

    pub done : (of_files : KnownCommand) → IsCommandDone left of_files source sink answer
        → IfSome known (λ held. AgreesOrNoMemory files.NoMemory (known_command held said) (Ok of_files)) → IfSome known Meant
    done of_files is gives = done_of of_files is known gives

-- what holds after each error but `Device` holds if the command was refused before anything was written
pub early : {X : Type 0} (told : Result (Unit {0}) DeskFault) → (IsErr told → told ≢ Err Device → X)
    → IsTrue (is_refused_before_message told) → X
early (Ok _) holds refused = absurd (cc)
early (Err Device) holds refused = absurd (cc)
early (Err fault) holds refused = holds refl (λ e. cc)

-- If the program stopped before anything was written, the command was refused before that.
pub refused_before : (file_failed : Bool) (told : Result (Unit {0}) DeskFault) (answer : Result (Unit {0}) Stop)
    → answer ≡ stop_after file_failed told → IsTrue (is_stopped_before_message answer)
    → IsTrue (is_refused_before_message told)
refused_before file_failed (Ok done) answer e early = subst (λ a. IsTrue (is_stopped_before_message a)) e early
refused_before true (Err Device) answer e early = subst (λ a. IsTrue (is_stopped_before_message a)) e early
refused_before file_failed (Err fault) answer e early = subst (λ a. IsTrue (is_stopped_before_message a)) e early
