-- Commands, and the values of their arguments as clap finds them.
use Rattle.kd_curator_command.proofs.Prelude.{◌≡◌, ◌≢◌, ℕ, List, Option, Some, None, Bor, decimal, option_map, sym, ap, ◌∙◌}
use Rattle.kd_curator_command.proofs.Prelude.{Result, IfSome, true, false, [], ◌∷◌, refl, subst, App, FailsBy}
use Rattle.kd_curator_command.proofs.Prelude.{HasKind, HasMatchesOf, IsAmong, Row, fault_of, first_of, first_value, is_simple}
use Rattle.kd_curator_command.proofs.Prelude.{is_simple_and_free, kind_of, rows_of, subcommand_of, subcommand_rows_of}
use Rattle.kd_curator_command.proofs.Prelude.{same_Some}
use Rattle.kd_curator_command.proofs.Prelude.{inl, inr, IsDayNumber, NamedCommand, IsCommandLineOf, IsNoCommandLine, arith}
use Rattle.kd_curator_command.proofs.Prelude.{AsksForHelp, HasNoCommand, IsToldAs, is_help, Error, ErrorKind, OutOfMemory}
use Rattle.kd_curator_command.proofs.Prelude.{AreDays, HasDay, HasDays, HasLanguage, IsMeant, IsTaskOf, codes}
use Rattle.std.specs.Prelude.{◌⊎◌, ◌++◌, ◌<◌, ◌≤◌, zero, suc, IsSome, length, map, nat_eq, option_to_list}
use Rattle.clap.specs.Words.{all_of, matched_of, raw_values}
use Rattle.std.specs.List.{cons_option}
use Rattle.std.proofs.Common.{get_or}
use Rattle.kd_curator_command.specs.declared.command.Task.{Task}
use Rattle.kd_curator_command.specs.declared.command.Task.TheVariants as tasks
use Rattle.kd_curator_command.specs.declared.command.Command.TheVariants as commands
use Rattle.kd_curator_command.specs.CommandLine.{IsCommandOf, IsTaskWith, task_name}
use Rattle.kd_curator_command.specs.CommandLine.{HasMessage, IsMessageTask, unborrowed_names}
use Rattle.kd_curator_command.specs.CommandLine.{IsEmptySheetOf, IsLookOf, IsMessageOf, IsSheetOf, IsTableOf, IsTypingPageOf}
use Rattle.kd_tables.specs.Direction.{direction_name}
use Rattle.kd_tables.specs.declared.direction.Direction.{Direction}
use Rattle.kd_tables.specs.declared.direction.Direction.TheVariants as directions
use Rattle.kd_curator_command.specs.Locale.{language_code}
unfoldable use Rattle.kd_curator_command.specs.Locale.{language_with_code}
use Rattle.kd_curator_command.specs.CommandLine.{asked_language, value_said}
use Rattle.kd_language.specs.declared.language.Language.TheVariants.{English, German}
use Rattle.std.specs.Prelude.{bytes_eq, cond, option_and_then, Bool, MatchOption}
use Rattle.std.specs.Bool.{Decides}
use Rattle.std.proofs.lemmas.Slice.Eq.{bytes_eq-Decides}
use Rattle.kd_curator_command.specs.declared.command.MessageTask.{MessageTask}
use Rattle.kd_language.specs.declared.language.Language.{Language}
use Rattle.kd_options.specs.TableOptions.{OptionTexts}
use Rattle.kd_curator_command.specs.CommandLine.{IsMonthNamed, are_blank, option_text, option_texts}
use Rattle.kd_tables.specs.declared.model.Model.{Model}
use Rattle.std.specs.Prelude.{unwrap_or}
use Rattle.kd_options.specs.declared.table_form.TableForm.{TableForm}
use Rattle.clap.proofs.{OnLiterals.clap_on_literals, WalkLemmas.first_value-rows, WalkLemmas.raw_values-rows}
use Rattle.clap.specs.declared.parser.matches.{ArgMatches.ArgMatches, Found.Found}
use Rattle.kd_curator_command.specs.{CommandLine.curator_grammar, declared.command.NoCommand.NoCommand}
use Rattle.kd_curator_command.specs.declared.command.NoCommand.TheVariants.{Asked, Usage, NoMemory}

-- clap's getters read the first value that an argument has in the rows of the matches
pub read_none : (found : Found) (id : List ℕ) (word : Option (Bor (List ℕ)))
    → option_map (λ s. s.now) word ≡ first_value found id → word ≡ None → first_of id (rows_of found) ≡ None
read_none found id word reads none = sym (first_value-rows found id) ∙ sym reads ∙ ap (option_map (λ s. s.now)) none

pub read_some : (found : Found) (id : List ℕ) (word : Option (Bor (List ℕ))) (read : Bor (List ℕ))
    → option_map (λ s. s.now) word ≡ first_value found id → word ≡ Some read
    → first_of id (rows_of found) ≡ Some read.now
read_some found id word read reads some =
    sym (first_value-rows found id) ∙ sym reads ∙ ap (option_map (λ s. s.now)) some

-- clap's getter of all values reads all values that an argument has in the rows of the matches
pub read_all : (found : Found) (id : List ℕ) (words : Option (Bor (List (Bor (List ℕ)))))
    → option_map (λ s. map (λ v. v.now) s.now) words ≡ option_map raw_values (matched_of found id)
    → all_of id (rows_of found) ≡ option_map (λ s. unborrowed_names s.now) words
read_all found id words reads = sym (raw_values-rows found id) ∙ sym reads

-- a number from 1 to 32 is 1, or is from 2 to 32
pub outside : (number : ℕ) → 1 ≤ number → number ≤ 32 → number ≢ 1 → (2 ≤ number → 32 < number) → ⊥
outside zero some few other many = omega (arith, some)
outside (suc zero) some few other many = other refl
outside (suc (suc number)) some few other many = omega (arith, few, many (omega arith))

-- an argument that isn't a day's number isn't the text of any day
pub other_word : (found : Found) (id : List ℕ) (word : Option (Bor (List ℕ))) (read : Bor (List ℕ))
    → option_map (λ s. s.now) word ≡ first_value found id → word ≡ Some read
    → ((day : ℕ) → IsDayNumber day → read.now ≢ decimal day) → (day : ℕ) → IsDayNumber day
    → first_of id (rows_of found) ≢ Some (decimal day)
other_word found id word read reads some other day within is =
    other day within (same_Some _ _ (sym (read_some found id word read reads some) ∙ is))

-- the grammar is simple enough that clap's contract says all about it
pub grammar_is_simple : is_simple_and_free curator_grammar ≡ true
unfolding clap_on_literals curator_grammar
grammar_is_simple = refl

pub grammar_is_known : is_simple curator_grammar ≡ true
unfolding clap_on_literals curator_grammar
grammar_is_known = refl

-- what clap's contract says of simple grammars holds for the program's grammar
pub parse_fails_by : (app : App) (words : List (List ℕ)) (result : Result ArgMatches Error) → app ≡ curator_grammar
    → (is_simple_and_free app ≡ true → FailsBy (fault_of app words) result)
    → FailsBy (fault_of curator_grammar words) result
parse_fails_by app words result is fails =
    subst (λ a. FailsBy (fault_of a words) result) is (fails (ap is_simple_and_free is ∙ grammar_is_simple))

pub parse_enters : (app : App) (words : List (List ℕ)) (m : ArgMatches) → app ≡ curator_grammar
    → HasMatchesOf app words m → subcommand_rows_of m ≡ subcommand_of curator_grammar words
parse_enters app words m is has = (subst (λ a. HasMatchesOf a words m) is has grammar_is_known).1

-- the command's name and its rows, known one by one, are known as a pair
pub name_with_rows : {X : Type 0} (entered : Option X) (name : X → List ℕ) (rows : X → List Row) (n : List ℕ)
    (r : List Row)
    → Some n ≡ option_map name entered → Some r ≡ option_map (λ (p : List ℕ × List Row). p.1)
    (option_map {U = List ℕ × List Row} (λ x. (name x, rows x)) entered)
    → option_map {U = List ℕ × List Row} (λ x. (name x, rows x)) entered ≡ Some (n, r)
name_with_rows entered name rows n r is is_rows = grind (arith)

-- a language is found by its code
coded : (language : Option Language) → option_and_then language_with_code (option_map language_code language) ≡ language
unfolding language_with_code
coded None = refl
coded (Some English) = refl
coded (Some German) = refl

-- the language that the option `--in` names is the language asked for
pub language_is_asked : (words : List (List ℕ)) (said : Option (List ℕ × List Row)) (language : Option Language)
    → said ≡ subcommand_of curator_grammar words → HasLanguage said language → language ≡ asked_language words
language_is_asked words said language e has =
    sym (ap (option_and_then language_with_code) has ∙ coded language)
    ∙ ap (λ s. option_and_then language_with_code (value_said (codes "in") s)) e

by_two_codes : (code : List ℕ) (one other : Bool) → Decides one (codes "en" ≡ code) → Decides other (codes "de" ≡ code)
    → MatchOption (cond one (Some English) (cond other (Some German) None))
    ((language : Language) → language_code language ≢ code) (λ language. language_code language ≡ code)
by_two_codes code true other english german = english.0 refl
by_two_codes code false true english german = german.0 refl
by_two_codes code false false english german = neither
  where
    neither : (language : Language) → language_code language ≢ code
    neither English is = let wrong : false ≡ true = english.1 is in cc
    neither German is = let wrong : false ≡ true = german.1 is in cc

-- a language is found by its own code only, and is found if there is one
found_by_code : (code : List ℕ) → MatchOption (language_with_code code)
    ((language : Language) → language_code language ≢ code) (λ language. language_code language ≡ code)
unfolding language_with_code
found_by_code code = by_two_codes code (bytes_eq (codes "en") code) (bytes_eq (codes "de") code)
    (bytes_eq-Decides (codes "en") code) (bytes_eq-Decides (codes "de") code)

pub code_of_found : (code : List ℕ) (language : Language) → Some language ≡ language_with_code code
    → language_code language ≡ code
code_of_found code language found = rw (← found) at (found_by_code code)

pub no_code_of : (code : List ℕ) → None ≡ language_with_code code → (language : Language)
    → language_code language ≢ code
no_code_of code none = rw (← none) at (found_by_code code)

-- the words mean the command that clap's matches mean
pub said_command : (words : List (List ℕ)) (said : Option (List ℕ × List Row)) → fault_of curator_grammar words ≡ []
    → said ≡ subcommand_of curator_grammar words → (command : NamedCommand) → IsMeant said command
    → (language : Option Language) → HasLanguage said language → IsCommandLineOf words command
said_command words said taken e command is language has = record {
  taken = taken;
  said = subst (λ s. IsMeant s command) e is;
  language = subst (λ l. HasLanguage (subcommand_of curator_grammar words) l)
      (language_is_asked words said language e has) (subst (λ s. HasLanguage s language) e has);
}

-- the words mean no command, if clap's matches mean no command, or name no language
pub no_command_said : (words : List (List ℕ)) (said : Option (List ℕ × List Row))
    → said ≡ subcommand_of curator_grammar words
    → ((command : NamedCommand) → IsMeant said command → (language : Option Language) → HasLanguage said language → ⊥)
    → IsNoCommandLine words
no_command_said words said e none command says =
    none command (subst (λ s. IsMeant s command) (sym e) says.said) (asked_language words)
    (subst (λ s. HasLanguage s (asked_language words)) (sym e) says.language)

-- ---- words that are no command

-- the words mean no command where clap finds a fault
faults_mean_none : (words : List (List ℕ)) (kind : ErrorKind) → IsAmong kind (fault_of curator_grammar words)
    → IsNoCommandLine words
faults_mean_none words kind among command says = rw says.taken at among

among_one : (kind other : ErrorKind) → IsAmong kind (other ∷ []) → kind ≡ other
among_one kind other among = grind arith

no_help_among : (words : List (List ℕ)) (kind : ErrorKind) → IsAmong kind (fault_of curator_grammar words)
    → is_help kind ≡ false → AsksForHelp words → ⊥
no_help_among words kind among other (asked, only, help) =
    let same = among_one kind asked (rw only at among) in
    let wrong : true ≡ false = sym help ∙ ap is_help (sym same) ∙ other in cc

no_help_taken : (words : List (List ℕ)) → fault_of curator_grammar words ≡ [] → AsksForHelp words → ⊥
no_help_taken words taken (asked, only, help) = cc

-- clap refused the words
pub refused_words : (words : List (List ℕ)) (error : Error) (told : NoCommand)
    → HasKind (fault_of curator_grammar words) error → IsToldAs (kind_of error) told → HasNoCommand words told
refused_words words error (Asked text) (inl memory) told =
    absurd (let help : is_help OutOfMemory ≡ true = ap is_help (sym memory) ∙ told in cc)
refused_words words error (Asked text) (inr among) told = (kind_of error, among, told)
refused_words words error (Usage text) (inl memory) told = absurd (told.1 memory)
refused_words words error (Usage text) (inr among) told =
    (faults_mean_none words (kind_of error) among, no_help_among words (kind_of error) among told.0)
refused_words words error NoMemory has told = tt

-- clap took the words, but no day is meant
pub other_days : (words : List (List ℕ)) (kind : ErrorKind) (told : NoCommand) → fault_of curator_grammar words ≡ []
    → IsNoCommandLine words → is_help kind ≡ false → IsToldAs kind told → HasNoCommand words told
other_days words kind (Asked text) taken none other told = absurd (let wrong : true ≡ false = sym told ∙ other in cc)
other_days words kind (Usage text) taken none other told = (none, no_help_taken words taken)
other_days words kind NoMemory taken none other told = tt

-- an argument that has no value in the rows has none
pub missing : (rows : List Row) (id word : List ℕ) → first_of id rows ≡ None → first_of id rows ≡ Some word → ⊥
missing rows id word none some = let wrong : None ≡ Some word = sym none ∙ some in cc

-- what follows from a property of a value, if there is one, holds of the same value
pub some_also : {T : Type 0} (answer : Option T) (P Q : T → Type 0) → ((x : T) → P x → Q x) → IfSome answer P
    → IfSome answer Q
some_also None P Q more holds = tt
some_also (Some x) P Q more holds = more x holds

-- ---- the names of commands

itself : (n : ℕ) → nat_eq n n ≡ true
itself n = grind (arith)

-- words that differ at a place are different
pub apart : (place : ℕ) (one other : List ℕ) → nat_eq (get_or one place 0) (get_or other place 0) ≡ false → one ≡ other
    → ⊥
apart place one other differ is =
    let same = ap (λ l. nat_eq (get_or one place 0) (get_or l place 0)) is in
    let wrong : true ≡ false = sym (itself (get_or one place 0)) ∙ same ∙ differ in cc

abbrev pub name_of : NamedCommand → List ℕ
name_of (commands.OnMachine machine sheet task) = task_name task
name_of (commands.Message machine sheet message task) = direction_name task.direction
name_of (commands.Orders machine sheet orders task) = codes "send"
name_of (commands.TypingPage machine) = codes "type"
name_of (commands.Table sheet form) = codes "table"
name_of (commands.Sheet table options) = codes "sheet"
name_of (commands.Look files) = codes "look"
name_of (commands.EmptySheet model days) = codes "sheet"

pub name_said : (said : List ℕ × List Row) (command : NamedCommand) → IsCommandOf said command
    → said.0 ≡ name_of command
name_said said (commands.OnMachine machine sheet task) of = of.task.name
name_said said (commands.Message machine sheet message task) of = of.name
name_said said (commands.Orders machine sheet orders task) of = of.name
name_said said (commands.TypingPage machine) of = of.name
name_said said (commands.Table sheet form) of = of.name
name_said said (commands.Sheet table options) of = of.name
name_said said (commands.Look files) of = of.name
name_said said (commands.EmptySheet model days) of = of.name

-- the names of commands differ in their third letters
pub message_apart : (direction : Direction) (name : List ℕ)
    → nat_eq (get_or (codes "send") 2 0) (get_or name 2 0) ≡ false
    → nat_eq (get_or (codes "receive") 2 0) (get_or name 2 0) ≡ false → direction_name direction ≡ name → ⊥
message_apart directions.Send name send receive is = apart 2 (codes "send") name send is
message_apart directions.Receive name send receive is = apart 2 (codes "receive") name receive is

pub same_direction : (one other : Direction) → direction_name one ≡ direction_name other → one ≡ other
same_direction directions.Send directions.Send is = refl
same_direction directions.Receive directions.Receive is = refl
same_direction directions.Send directions.Receive is = absurd (apart 2 (codes "send") (codes "receive") refl is)
same_direction directions.Receive directions.Send is = absurd (apart 2 (codes "receive") (codes "send") refl is)

no_message : (name : List ℕ) (direction : Direction) → name ≢ codes "send" → name ≢ codes "receive"
    → name ≡ direction_name direction → ⊥
no_message name directions.Send send receive is = send is
no_message name directions.Receive send receive is = receive is

module _ (rows : List Row) where
  other_name : (name : List ℕ) (command : NamedCommand)
      → nat_eq (get_or name 2 0) (get_or (name_of command) 2 0) ≡ false → IsCommandOf (name, rows) command → ⊥
  other_name name command differ of = apart 2 name (name_of command) differ (name_said (name, rows) command of)

  other_task : (name : List ℕ) (machine sheet : List ℕ) (task : Task)
      → nat_eq (get_or name 2 0) (get_or (codes "page") 2 0) ≡ false
      → nat_eq (get_or name 2 0) (get_or (codes "list") 2 0) ≡ false
      → IsCommandOf (name, rows) (commands.OnMachine machine sheet task) → ⊥
  other_task name machine sheet (tasks.Page days) page list of = apart 2 name _ page of.task.name
  other_task name machine sheet (tasks.List day) page list of = apart 2 name _ list of.task.name

  -- what the command `send` has: one order or several orders, and a task
  pub record HasSent : Type 0 where
    pub its_machine : List ℕ
    pub machine : first_of (codes "MACHINE") rows ≡ Some its_machine
    pub its_sheet : List ℕ
    pub sheet : first_of (codes "SHEET") rows ≡ Some its_sheet
    pub its_orders : List (List ℕ)
    pub orders : all_of (codes "ORDER") rows ≡ Some its_orders
    pub some : 1 ≤ length its_orders
    pub few : length its_orders ≤ 32
    pub its_task : MessageTask
    pub task : IsMessageTask rows directions.Send its_task

  sent_message : (machine sheet message : List ℕ) (task : MessageTask)
      → IsMessageOf (codes "send", rows) machine sheet message task → task.direction ≡ directions.Send → HasSent
  sent_message machine sheet message task of same = record {
    its_machine = machine;
    machine = of.machine;
    its_sheet = sheet;
    sheet = of.sheet;
    its_orders = message ∷ [];
    orders = subst (λ d. HasMessage rows d message) same of.message;
    some = omega arith;
    few = omega arith;
    its_task = task;
    task = record { same = same; day = of.day; results = of.results };
  }

  pub only_sent : (command : NamedCommand) → IsCommandOf (codes "send", rows) command → HasSent
  only_sent (commands.Message machine sheet message task) of =
      sent_message machine sheet message task of (same_direction task.direction directions.Send (sym of.name))
  only_sent (commands.Orders machine sheet orders task) of = record {
    its_machine = machine;
    machine = of.machine;
    its_sheet = sheet;
    sheet = of.sheet;
    its_orders = orders.items;
    orders = of.orders;
    some = omega (arith, of.several);
    few = of.few;
    its_task = task;
    task = of.task;
  }
  only_sent (commands.OnMachine machine sheet task) of =
      absurd (other_task (codes "send") machine sheet task refl refl of)
  only_sent other of = absurd (other_name (codes "send") other refl of)

  -- what the command of each other name is
  pub only_received : (command : NamedCommand) → IsCommandOf (codes "receive", rows) command
      → (machine sheet message : List ℕ) × (task : MessageTask)
      × IsMessageOf (codes "receive", rows) machine sheet message task × (task.direction ≡ directions.Receive)
  only_received (commands.Message machine sheet message task) of =
      (machine, sheet, message, task, of, same_direction task.direction directions.Receive (sym of.name))
  only_received (commands.OnMachine machine sheet task) of =
      absurd (other_task (codes "receive") machine sheet task refl refl of)
  only_received other of = absurd (other_name (codes "receive") other refl of)

  pub only_table : (command : NamedCommand) → IsCommandOf (codes "table", rows) command
      → (sheet : List ℕ) × (form : TableForm) × IsTableOf (codes "table", rows) sheet form
  only_table (commands.Table sheet form) of = (sheet, form, of)
  only_table (commands.OnMachine machine sheet task) of =
      absurd (other_task (codes "table") machine sheet task refl refl of)
  only_table (commands.Message machine sheet message task) of =
      absurd (message_apart task.direction (codes "table") refl refl (sym of.name))
  only_table other of = absurd (other_name (codes "table") other refl of)

  pub only_typing_page : (command : NamedCommand) → IsCommandOf (codes "type", rows) command
      → (machine : List ℕ) × IsTypingPageOf (codes "type", rows) machine
  only_typing_page (commands.TypingPage machine) of = (machine, of)
  only_typing_page (commands.OnMachine machine sheet task) of =
      absurd (other_task (codes "type") machine sheet task refl refl of)
  only_typing_page (commands.Message machine sheet message task) of =
      absurd (message_apart task.direction (codes "type") refl refl (sym of.name))
  only_typing_page other of = absurd (other_name (codes "type") other refl of)

  pub only_look : (command : NamedCommand) → IsCommandOf (codes "look", rows) command
      → (files : List (List ℕ)) × IsLookOf (codes "look", rows) files
  only_look (commands.Look files) of = (files.items, of)
  only_look (commands.OnMachine machine sheet task) of =
      absurd (other_task (codes "look") machine sheet task refl refl of)
  only_look (commands.Message machine sheet message task) of =
      absurd (message_apart task.direction (codes "look") refl refl (sym of.name))
  only_look other of = absurd (other_name (codes "look") other refl of)

  -- the words mean a sheet of a table, or a sheet to fill in
  abbrev pub SheetSaid : Type 0
  SheetSaid = ((table : List ℕ) × (options : OptionTexts) × IsSheetOf (codes "sheet", rows) table options)
      ⊎ ((model : Model) × (days : ℕ) × IsEmptySheetOf (codes "sheet", rows) model days)

  only_sheet : (command : NamedCommand) → IsCommandOf (codes "sheet", rows) command → SheetSaid
  only_sheet (commands.Sheet table options) of = inl (table, options, of)
  only_sheet (commands.EmptySheet model days) of = inr (model, days, of)
  only_sheet (commands.OnMachine machine sheet task) of =
      absurd (other_task (codes "sheet") machine sheet task refl refl of)
  only_sheet (commands.Message machine sheet message task) of =
      absurd (message_apart task.direction (codes "sheet") refl refl (sym of.name))
  only_sheet other of = absurd (other_name (codes "sheet") other refl of)

  without_table : first_of (codes "TABLE") rows ≡ None → SheetSaid → ⊥
  without_table none (inl (table, options, is)) = missing rows (codes "TABLE") table none is.table
  without_table none (inr (model, days, is)) = missing rows (codes "TABLE") is.days_word none is.table

  -- the command `sheet` without a table, or a number of days in its place, is no command
  pub no_sheet : first_of (codes "TABLE") rows ≡ None → (command : NamedCommand)
      → IsCommandOf (codes "sheet", rows) command → ⊥
  no_sheet none command of = without_table none (only_sheet command of)

  module _ (model_word days_word : List ℕ) (empty : first_of (codes "empty") rows ≡ Some model_word)
      (table : first_of (codes "TABLE") rows ≡ Some days_word) where
    without_month : ((month : Model × ℕ) → IsMonthNamed model_word days_word month.0 month.1 → ⊥) → SheetSaid → ⊥
    without_month none (inl (its_table, options, is)) = missing rows (codes "empty") model_word is.filled empty
    without_month none (inr (model, days, is)) =
        let model_same = same_Some is.model_word model_word (sym is.empty ∙ empty) in
        let days_same = same_Some is.days_word days_word (sym is.table ∙ table) in
        none (model, days) (subst (λ w. IsMonthNamed model_word w model days) days_same
        (subst (λ w. IsMonthNamed w is.days_word model days) model_same is.month))

    -- words that aren't a model and a number of days are no command
    pub no_month : ((month : Model × ℕ) → IsMonthNamed model_word days_word month.0 month.1 → ⊥)
        → (command : NamedCommand) → IsCommandOf (codes "sheet", rows) command → ⊥
    no_month none command of = without_month none (only_sheet command of)

    with_others : are_blank (option_texts rows) ≡ false → SheetSaid → ⊥
    with_others other (inl (its_table, options, is)) = missing rows (codes "empty") model_word is.filled empty
    with_others other (inr (model, days, is)) = let wrong : true ≡ false = sym is.alone ∙ other in cc

    -- an empty sheet with other options is no command
    pub not_alone : are_blank (option_texts rows) ≡ false → (command : NamedCommand)
        → IsCommandOf (codes "sheet", rows) command → ⊥
    not_alone other command of = with_others other (only_sheet command of)

-- no command is meant, if its name is none of these, and no task is meant
pub no_task_with : (said : List ℕ × List Row) → said.0 ≢ codes "table" → said.0 ≢ codes "sheet"
    → said.0 ≢ codes "look" → said.0 ≢ codes "send" → said.0 ≢ codes "receive" → said.0 ≢ codes "type"
    → ((machine sheet : List ℕ) (task : Task) → IsTaskWith said machine sheet task → ⊥)
    → (command : NamedCommand) → IsCommandOf said command → ⊥
no_task_with said table sheet look send receive typing none (commands.OnMachine machine its_sheet task) of =
    none machine its_sheet task of
no_task_with said table sheet look send receive typing none (commands.Message machine its_sheet message task) of =
    no_message said.0 task.direction send receive of.name
no_task_with said table sheet look send receive typing none (commands.Orders machine its_sheet orders task) of =
    send of.name
no_task_with said table sheet look send receive typing none (commands.TypingPage machine) of = typing of.name
no_task_with said table sheet look send receive typing none (commands.Table its_sheet form) of = table of.name
no_task_with said table sheet look send receive typing none (commands.Sheet its_table options) of = sheet of.name
no_task_with said table sheet look send receive typing none (commands.Look files) of = look of.name
no_task_with said table sheet look send receive typing none (commands.EmptySheet model days) of = sheet of.name

-- a task of `page` has its days
pub only_page : (rows : List Row) (task : Task) → IsTaskOf (codes "page", rows) task
    → (days : Option (List ℕ)) × HasDays rows days
only_page rows (tasks.Page days) of = (days, of.arguments)
only_page rows (tasks.List day) of = absurd (apart 0 (codes "page") (codes "list") refl of.name)

pub only_list : (rows : List Row) (task : Task) → IsTaskOf (codes "list", rows) task
    → (day : ℕ) × HasDay rows day
only_list rows (tasks.Page days) of = absurd (apart 0 (codes "list") (codes "page") refl of.name)
only_list rows (tasks.List day) of = (day, of.arguments)

-- a word that names no days gives none
pub other_days_word : (rows : List Row) (word : List ℕ) → first_of (codes "DAYS") rows ≡ Some word
    → ((days : List ℕ) → AreDays word days → ⊥) → (days : Option (List ℕ)) → HasDays rows days → ⊥
other_days_word rows word is none None has = let wrong : Some word ≡ None = sym is ∙ has in cc
other_days_word rows word is none (Some days) has =
    let same = same_Some word has.0 (sym is ∙ has.1) in
    none days (subst (λ w. AreDays w days) (sym same) has.2)

-- a word that is no language's code gives none
pub other_language : (said : Option (List ℕ × List Row)) (word : List ℕ) → value_said (codes "in") said ≡ Some word
    → ((language : Language) → language_code language ≢ word) → (language : Option Language) → HasLanguage said language
    → ⊥
other_language said word is none None has = let wrong : Some word ≡ None = sym is ∙ has in cc
other_language said word is none (Some language) has = none language (same_Some _ _ (sym has ∙ is))

-- the text of an option, as clap's getter reads it
pub read_text : (found : Found) (id : List ℕ) (word : Option (Bor (List ℕ))) (otherwise : Bor (List ℕ))
    → option_map (λ s. s.now) word ≡ first_value found id → otherwise.now ≡ []
    → (unwrap_or word otherwise).now ≡ option_text id (rows_of found)
read_text found id None otherwise reads blank =
    blank ∙ sym (ap (λ o. unwrap_or o []) (sym (first_value-rows found id) ∙ sym reads))
read_text found id (Some read) otherwise reads blank =
    sym (ap (λ o. unwrap_or o []) (sym (first_value-rows found id) ∙ sym reads))

-- the value of an argument that a command line may lack, as clap's getter reads it
pub read_maybe : (found : Found) (id : List ℕ) (word : Option (Bor (List ℕ)))
    → option_map (λ s. s.now) word ≡ first_value found id
    → first_of id (rows_of found) ≡ option_map (λ s. s.now) word
read_maybe found id word reads = sym (first_value-rows found id) ∙ sym reads

joined : (first : List ℕ) (second third : Option (List ℕ))
    → (first ∷ [] ++ option_to_list second) ++ option_to_list third
    ≡ first ∷ cons_option second (cons_option third [])
joined first None None = refl
joined first None (Some third) = refl
joined first (Some second) None = refl
joined first (Some second) (Some third) = refl

-- the files of the command `look`, read one after another
pub files_read : (rows : List Row) (first : List ℕ) (one two three : List (List ℕ))
    → first_of (codes "FILE") rows ≡ Some first → one ≡ first ∷ []
    → two ≡ one ++ option_to_list (first_of (codes "FILE2") rows)
    → three ≡ two ++ option_to_list (first_of (codes "FILE3") rows) → IsLookOf (codes "look", rows) three
files_read rows first one two three is begun more last =
    let second = first_of (codes "FILE2") rows in
    let third = first_of (codes "FILE3") rows in
    record {
      name = refl;
      first = subst IsSome (sym is) refl;
      files = last ∙ ap (λ l. l ++ option_to_list third) (more ∙ ap (λ l. l ++ option_to_list second) begun)
          ∙ joined first second third ∙ ap (λ f. cons_option f (cons_option second (cons_option third []))) (sym is);
    }
