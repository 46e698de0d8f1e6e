-- What was written to a sink that gathers bytes is written to the sink to which it passes them on.
use Rattle.std.proofs.Common.{◌≡◌, ◌∙◌, ◌||◌, ℕ, Bool, true, false, not, List, [], Option, Result, Ok, Err}
use Rattle.std.proofs.Common.{IsTrue}
use Rattle.std.proofs.Common.{inl, inr, refl, sym, subst, arith, ap, None, Some}
use Rattle.std.proofs.Common.{append-nil}
use Rattle.std.proofs.KnownBytes.{Appends-kept}
use Rattle.std.specs.Io.KnownBytes.{Appends, Keeps, append_known}
use Rattle.kd_tables.specs.Ports.{Port}
use Rattle.kd_host.specs.Files.{AskedName}
use Rattle.kd_host.specs.Writing.{WritesText}
use Rattle.kd_state.specs.declared.machine.parts.Parts.{Parts}
use Rattle.kd_sheet.specs.Sheet.{day_of}
use Rattle.kd_state.specs.SheetDay.{Day}
use Rattle.kd_curator.specs.Ending.{stop_after}
use Rattle.kd_curator.specs.Files.{text_at}
use Rattle.kd_curator.specs.MachineAndSheet.{machine_and_month, machine_in, month_in}
use Rattle.kd_curator.specs.Program.{CarriesOut, DoesCommand, DoesTask, IsTold, IsAnswerAfterFlush, is_stopped_before_writing}
use Rattle.kd_curator.specs.Program.{AnswersAfter, IsFlushed, is_whole}
use Rattle.kd_curator.specs.Program.{Carried, FileUnread, Shown, OtherWords, NoMemory, is_stopped_by_device, is_usage}
use Rattle.kd_curator.specs.Looks.{Looks, named_texts}
use Rattle.kd_curator.specs.Refusals.{comes_after_writing, is_after_all, refused_device}
use Rattle.kd_curator.specs.declared.fault.PageFault.{PageFault}
use Rattle.kd_curator.specs.declared.fault.PageFault.TheVariants as faults
use Rattle.kd_look.specs.Look.{IsLookAnswer, NamedText}
use Rattle.std.specs.declared.alloc.AllocError.{AllocError}
use Rattle.kd_tables.specs.declared.ports.write_fault.WriteFault.{WriteFault}
use Rattle.kd_look.specs.declared.outcome.Outcome.{Outcome}
use Rattle.kd_tables.specs.Writing.{Writes}
use Rattle.kd_curator.specs.Sheets.{MakesSheet, Sheet, Faulty, NoMemory as NoSheetMemory}
use Rattle.kd_options.specs.TableOptions.{OptionTexts}
use Rattle.kd_language.specs.declared.language.Language.{Language}
use Rattle.kd_pictures.specs.declared.results.Results.{Results}
use Rattle.kd_curator_command.specs.CommandLine.{NamedCommand, chosen_language}
use Rattle.kd_curator_command.specs.declared.command.Command.TheVariants as commands
use Rattle.kd_curator.specs.RunList.{WritesList, NoList, Settings}
use Rattle.std.specs.Prelude.{drop}
use Rattle.kd_curator.specs.Program.{WritesMessage}
use Rattle.kd_message.specs.SendBooklet.{OrderText}
use Rattle.kd_curator.specs.RunOrders.{WritesOrders, order_texts}
use Rattle.kd_curator.specs.RunOrders as several
use Rattle.kd_curator.specs.RunPage.{WritesPages, NoDays, NoPage, Pages}
use Rattle.kd_curator.specs.RunReceive.{WritesReceivePage}
use Rattle.kd_curator.specs.RunReceive as receives
use Rattle.kd_curator.specs.RunSend.{WritesSendPage}
use Rattle.kd_curator.specs.RunSend as sends
use Rattle.kd_curator.specs.RunType.{WritesTypingPage}
use Rattle.kd_curator.specs.RunType as types
use Rattle.kd_tables.specs.declared.direction.Direction.{Direction}
use Rattle.kd_tables.specs.declared.direction.Direction.TheVariants as directions
use Rattle.kd_curator_command.specs.declared.command.Task.{Task}
use Rattle.kd_curator_command.specs.declared.command.Task.TheVariants as tasks
use Rattle.kd_curator.specs.declared.fault.Refused.{Refused}
use Rattle.kd_curator.specs.declared.stop.Stop.{Stop}
use Rattle.kd_curator.specs.declared.stop.Stop.TheVariants as stops
use Rattle.kd_curator.proofs.Answers.{on_kept}

-- ---- the same bytes at another port

module _ (one other : Port) (before : one.had ≡ other.had) (after : Keeps one.has other.has) where
  appends_kept : (text : List ℕ) → Appends one.had one.has text → Appends other.had other.has text
  appends_kept text appends =
      subst (λ had. Appends had other.has text) before (Appends-kept one.had one.has other.has text appends after)

  text_kept : {Fault : Type 0} (fault : Fault) (text : List ℕ) (answer : Result (Unit {0}) Fault)
      → WritesText fault text one answer → WritesText fault text other answer
  text_kept fault text (Ok done) writes = record {
    written = record { whole = appends_kept text writes.written.whole; front = tt };
    device = tt;
  }
  text_kept fault text (Err made) writes =
      let front = writes.written.front in record {
        written = record { whole = tt; front = (front.0, front.1, appends_kept _ front.2) };
        device = writes.device;
      }

  list_kept : (month : List (Option Day)) (m : Parts) (number : ℕ) (answer : Result (Unit {0}) Refused)
      → WritesList month m number one answer → WritesList month m number other answer
  list_kept month m number answer (NoList fault is told) = NoList fault is told
  list_kept month m number answer (Settings plan n of is_list writes) =
      Settings plan n of is_list (text_kept _ _ answer writes)

  pages_kept : (l : Language) (name : List ℕ) (month : List (Option Day)) (m : Parts) (numbers : List ℕ)
      (answer : Result (Unit {0}) Refused)
      → WritesPages l name month m numbers one answer → WritesPages l name month m numbers other answer
  pages_kept l name month m numbers answer (NoDays none told) = NoDays none told
  pages_kept l name month m numbers answer (NoPage refused is told) = NoPage refused is told
  pages_kept l name month m numbers answer (Pages first others planned text booklet writes) =
      Pages first others planned text booklet (text_kept _ _ answer writes)

  task_kept : (l : Language) (task : Task) (name machine sheet : List ℕ) (told : Result (Unit {0}) Refused)
      → DoesTask l task name machine sheet one told → DoesTask l task name machine sheet other told
  task_kept l (tasks.Page days) name machine sheet told does =
      on_kept (machine_and_month machine sheet) _ _ told (λ both. pages_kept l name both.1 both.0 _ told) does
  task_kept l (tasks.List day) name machine sheet told does =
      on_kept (machine_and_month machine sheet) _ _ told (λ both. list_kept both.1 both.0 day told) does

  sheet_kept : (options : OptionTexts) (table : List ℕ) (told : Result (Unit {0}) Refused)
      → MakesSheet options table one told → MakesSheet options table other told
  sheet_kept options table told (Sheet days means again writes) =
      Sheet days means again (text_kept refused_device _ told writes)
  sheet_kept options table told (Faulty refused is) = Faulty refused is
  sheet_kept options table told (NoSheetMemory lacks) = NoSheetMemory lacks

  writes_kept : {T E : Type 0} (text : List ℕ) (answer : Result T E) → Writes one.had one.has text answer
      → Writes other.had other.has text answer
  writes_kept text (Ok done) writes = record { whole = appends_kept text writes.whole; front = tt }
  writes_kept text (Err made) writes =
      let front = writes.front in record { whole = tt; front = (front.0, front.1, appends_kept _ front.2) }

  report_kept : (l : Language) (files : List NamedText) (told : Result Outcome (WriteFault AllocError))
      → IsLookAnswer l files one told → IsLookAnswer l files other told
  report_kept l files told (inl writes) = inl (record {
    text = writes.text;
    made = writes.made;
    written = writes_kept writes.text told writes.written;
    answered = writes.answered;
    device = writes.device;
  })
  report_kept l files told (inr lacks) = inr lacks

  look_kept : (l : Language) (files : List NamedText) (told : Result (Unit {0}) Refused) → Looks l files one told
      → Looks l files other told
  look_kept l files told looks =
      record { told = looks.told; looks = report_kept l files looks.told looks.looks; answers = looks.answers }

  send_kept : (results : Results) (l : Language) (day : Option Day) (m : Parts) (order : List ℕ)
      (told : Result (Unit {0}) Refused) → WritesSendPage results l day m order one told
      → WritesSendPage results l day m order other told
  send_kept results l day m order told (sends.NoDay none is) = sends.NoDay none is
  send_kept results l day m order told (sends.NoPage s found fault why is) = sends.NoPage s found fault why is
  send_kept results l day m order told (sends.Page s found form page ready is shown writes) =
      sends.Page s found form page ready is shown (text_kept _ _ told writes)

  orders_kept : (results : Results) (l : Language) (day : Option Day) (m : Parts)
      (orders : List OrderText) (told : Result (Unit {0}) Refused)
      → WritesOrders results l day m orders one told → WritesOrders results l day m orders other told
  orders_kept results l day m orders told (several.NoDay none is) = several.NoDay none is
  orders_kept results l day m orders told (several.NoPages s found fault first is) =
      several.NoPages s found fault first is
  orders_kept results l day m orders told (several.Pages s found good text booklet writes) =
      several.Pages s found good text booklet (text_kept _ _ told writes)

  receive_kept : (results : Results) (l : Language) (day : Option Day) (m : Parts) (form : List ℕ)
      (told : Result (Unit {0}) Refused) → WritesReceivePage results l day m form one told
      → WritesReceivePage results l day m form other told
  receive_kept results l day m form told (receives.NoDay none is) = receives.NoDay none is
  receive_kept results l day m form told (receives.OffKey s found fault why is) = receives.OffKey s found fault why is
  receive_kept results l day m form told (receives.NotRead s found ready fault why is) =
      receives.NotRead s found ready fault why is
  receive_kept results l day m form told (receives.Page s found parts read writes is) =
      receives.Page s found parts read (appends_kept _ writes) is
  receive_kept results l day m form told (receives.Cut s found parts read front is) =
      receives.Cut s found parts read (front.0, front.1, appends_kept _ front.2) is

  message_kept : (direction : Direction) (results : Results) (l : Language) (day : Option Day) (m : Parts)
      (message : List ℕ) (told : Result (Unit {0}) Refused) → WritesMessage direction results l day m message one told
      → WritesMessage direction results l day m message other told
  message_kept directions.Send results l day m order told writes = send_kept results l day m order told writes
  message_kept directions.Receive results l day m form told writes = receive_kept results l day m form told writes

  typing_page_kept : (l : Language) (m : Parts) (told : Result (Unit {0}) Refused) → WritesTypingPage l m one told
      → WritesTypingPage l m other told
  typing_page_kept l m told (types.NoPage not_ready is) = types.NoPage not_ready is
  typing_page_kept l m told (types.Page ready types_so writes) =
      types.Page ready types_so (text_kept refused_device _ told writes)

  command_kept : (l : Language) (command : NamedCommand) (texts : List (List ℕ)) (told : Result (Unit {0}) Refused)
      → DoesCommand l command texts one told → DoesCommand l command texts other told
  command_kept l (commands.OnMachine machine sheet task) texts told does =
      task_kept l task sheet (text_at texts 0) (text_at texts 1) told does
  command_kept l (commands.Message machine sheet message task) texts told does =
      on_kept (machine_and_month (text_at texts 0) (text_at texts 1)) _ _ told
      (λ both. message_kept task.direction task.results l (day_of both.1 task.day) both.0 (text_at texts 2) told) does
  command_kept l (commands.Orders machine sheet orders task) texts told does =
      on_kept (machine_and_month (text_at texts 0) (text_at texts 1)) _ _ told
      (λ both. orders_kept task.results l (day_of both.1 task.day) both.0
      (order_texts orders.items (drop 2 texts)) told) does
  command_kept l (commands.TypingPage machine) texts told does =
      on_kept (machine_in (text_at texts 0)) _ _ told (λ m. typing_page_kept l m told) does
  command_kept l (commands.Table sheet form) texts told does =
      on_kept (month_in 0 (text_at texts 0)) _ _ told (λ month. text_kept refused_device _ told) does
  command_kept l (commands.Sheet table options) texts told does = sheet_kept options (text_at texts 0) told does
  command_kept l (commands.Look files) texts told does =
      look_kept l (named_texts files.items texts) told does
  command_kept l (commands.EmptySheet model days) texts told does = text_kept refused_device _ told does

-- ---- the program's answer

after_flush : (whole : Bool) (left : List ℕ) (first done answer : Result (Unit {0}) Stop) → is_whole first ≡ whole
    → AnswersAfter whole [] first done → IsAnswerAfterFlush left done answer → AnswersAfter whole left first answer
after_flush true left first done answer whole (inl (is, none)) ends =
    let e : is_whole done ≡ true = ap is_whole is ∙ whole in
    subst (λ d. IsFlushed left d answer) is (subst (λ b. AnswersAfter b left done answer) e ends)
after_flush true left first done answer whole (inr (is, some)) ends = absurd (omega (arith, some))
after_flush false left first done answer whole is ends =
    let e : is_whole done ≡ false = ap is_whole is ∙ whole in
    let same : answer ≡ done = subst (λ b. AnswersAfter b left done answer) e ends in same ∙ is

ends_on : (left : List ℕ) (first done answer : Result (Unit {0}) Stop) → IsAnswerAfterFlush [] first done
    → IsAnswerAfterFlush left done answer → IsAnswerAfterFlush left first answer
ends_on left first done answer one ends = after_flush (is_whole first) left first done answer refl one ends

module _ (left : List ℕ) (done answer : Result (Unit {0}) Stop) (ends : IsAnswerAfterFlush left done answer) where
  stops_on : (stop : Stop) → is_whole (Err stop) ≡ false → done ≡ Err stop → answer ≡ Err stop
  stops_on stop other is =
      let e : is_whole done ≡ false = ap is_whole is ∙ other in
      let same : answer ≡ done = subst (λ b. AnswersAfter b left done answer) e ends in same ∙ is

  told_on : (Does Other : Result (Unit {0}) Refused → Type 0)
      → ((told : Result (Unit {0}) Refused) → Does told → Other told) → IsTold Does [] done → IsTold Other left answer
  told_on Does Other more is = record {
    told = is.told;
    does = more is.told is.does;
    answers = ends_on left (stop_after is.told) done answer is.answers ends;
  }

usage_on : (left : List ℕ) (done answer : Result (Unit {0}) Stop) → IsAnswerAfterFlush left done answer
    → IsTrue (is_usage done) → IsTrue (is_usage answer)
usage_on left (Ok fine) answer ends usage = absurd (cc)
usage_on left (Err (stops.Usage text)) answer ends usage = subst (λ a. IsTrue (is_usage a)) (sym ends) usage
usage_on left (Err (stops.Refused refused)) answer ends usage = absurd (cc)

or_again : (a d : Bool) → ((a || d) || d) ≡ (a || d)
or_again true d = refl
or_again false true = refl
or_again false false = refl

or_true : (a b : Bool) → (a || true) ≡ (b || true)
or_true true true = refl
or_true true false = refl
or_true false true = refl
or_true false false = refl

module _ (left : List ℕ) (done answer : Result (Unit {0}) Stop) (before between after : Bool)
    (failed : between ≡ (before || is_stopped_by_device done)) where
  failed_by : (whole : Bool) → is_whole done ≡ whole → AnswersAfter whole left done answer
      → (is_whole done ≡ false → after ≡ between)
      → (is_whole done ≡ true → after ≡ (between || is_stopped_by_device answer))
      → after ≡ (before || is_stopped_by_device answer)
  failed_by true whole (inl (is, none)) same passed =
      let d = is_stopped_by_device answer in
      let e : is_stopped_by_device done ≡ d = ap is_stopped_by_device (sym is) in
      passed whole ∙ ap (λ b. b || d) (failed ∙ ap (λ b. before || b) e) ∙ or_again before d
  failed_by true whole (inr (is, some)) same passed =
      let e : is_stopped_by_device answer ≡ true = ap is_stopped_by_device is in
      passed whole ∙ ap (λ b. between || b) e ∙ or_true between before ∙ sym (ap (λ b. before || b) e)
  failed_by false whole is same passed =
      same whole ∙ failed ∙ ap (λ a. before || is_stopped_by_device a) (sym is)

pub failed_on : (left : List ℕ) (done answer : Result (Unit {0}) Stop) (before between after : Bool)
    → IsAnswerAfterFlush left done answer → between ≡ (before || is_stopped_by_device done)
    → (is_whole done ≡ false → after ≡ between)
    → (is_whole done ≡ true → after ≡ (between || is_stopped_by_device answer))
    → after ≡ (before || is_stopped_by_device answer)
failed_on left done answer before between after ends failed same passed =
    failed_by left done answer before between after failed (is_whole done) refl ends same passed

whole_fault : (fault : PageFault) → is_after_all fault ≡ true → not (comes_after_writing fault) ≡ true → ⊥
whole_fault faults.FaultyFile whole early = cc
whole_fault faults.NotWhole whole early = cc
whole_fault _ whole early = cc

-- an answer that says all that was written isn't one from before writing
whole_wrote : (done : Result (Unit {0}) Stop) → is_whole done ≡ true → IsTrue (is_stopped_before_writing done) → ⊥
whole_wrote (Ok fine) whole early = absurd (cc)
whole_wrote (Err (stops.Usage text)) whole early = cc
whole_wrote (Err (stops.Refused refused)) whole early = whole_fault refused.fault whole (search early)

stopped_by : {X : Type 0} (whole : Bool) (left : List ℕ) (done answer : Result (Unit {0}) Stop) → is_whole done ≡ whole
    → AnswersAfter whole left done answer
    → (is_whole done ≡ false → IsTrue (is_stopped_before_writing done) → X)
    → IsTrue (is_stopped_before_writing answer) → X
stopped_by true left done answer whole (inl (is, none)) holds stopped =
    absurd (whole_wrote done whole (subst (λ a. IsTrue (is_stopped_before_writing a)) is stopped))
stopped_by true left done answer whole (inr (is, some)) holds stopped =
    let early = subst (λ a. IsTrue (is_stopped_before_writing a)) is stopped in absurd (cc)
stopped_by false left done answer whole is holds stopped =
    holds whole (subst (λ a. IsTrue (is_stopped_before_writing a)) is stopped)

pub stopped_on : {X : Type 0} (left : List ℕ) (done answer : Result (Unit {0}) Stop) → IsAnswerAfterFlush left done answer
    → (is_whole done ≡ false → IsTrue (is_stopped_before_writing done) → X)
    → IsTrue (is_stopped_before_writing answer) → X
stopped_on left done answer ends holds stopped = stopped_by (is_whole done) left done answer refl ends holds stopped

pub none_gathered : (had : Option (List ℕ)) → append_known had [] ≡ had
none_gathered None = refl
none_gathered (Some bytes) = ap Some (append-nil bytes)

module _ (l : Language) (words : List (List ℕ)) (known : Option (List ℕ → Option (List ℕ))) (asked : List AskedName)
    (one other errors : Port) (left : List ℕ) (done answer : Result (Unit {0}) Stop)
    (ends : IsAnswerAfterFlush left done answer) (before : one.had ≡ other.had) (after : Keeps one.has other.has) where
  pub carried_on : CarriesOut l words known asked one errors [] done
      → CarriesOut l words known asked other errors left answer
  carried_on (Carried command says texts many knows asks told) =
      Carried command says texts many knows asks (told_on left done answer ends _ _
      (λ t runs. (
        command_kept one other before after (chosen_language l words) command texts t runs.0,
        runs.1,
      )) told)
  carried_on (FileUnread command says fault place why knows asks last is alone) =
      FileUnread command says fault place why knows asks last (stops_on left done answer ends _ refl is) alone
  carried_on (Shown text kind among help none told alone) =
      Shown text kind among help none (told_on left done answer ends _ _
      (λ t. text_kept one other before after refused_device text t) told) alone
  carried_on (OtherWords none no_help nothing usage alone) =
      OtherWords none no_help nothing (usage_on left done answer ends usage) alone
  carried_on (NoMemory nothing is alone) = NoMemory nothing (stops_on left done answer ends _ refl is) alone
