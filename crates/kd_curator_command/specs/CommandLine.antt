-- The grammar of the command line: help, and the commands `page`, `list`, `send`, `receive`, `type`, `table`, `sheet`
-- and `look`, with their arguments.
-- Code: `grammar` builds the grammar by calls of the library `clap`.
-- Test: tests/cases/curator-words.toml
use Rattle.std.specs.Prelude.{codes, decimal, ◌≡◌, ◌≢◌, ℕ, Bool, true, false, List, [], ◌∷◌, ◌++◌, Option, Some, None}
use Rattle.std.specs.Prelude.{◌&&◌, ◌==◌, ◌≤◌, IsSome, IsSomeAnd, IsTrue, filter_map, fold, length, map, option_and_then}
use Rattle.std.specs.Prelude.{option_map, unwrap_or}
use Rattle.std.specs.Borrow.{Bor}
use Rattle.clap.specs.declared.builder.command.Command.{Command as Grammar, out-Command}
use Rattle.clap.specs.declared.error.kind.ErrorKind.{ErrorKind}
use Rattle.clap.specs.declared.error.kind.ErrorKind.TheVariants.{DisplayHelp, DisplayVersion, OutOfMemory}
use Rattle.clap.specs.Words.{App, all_of, app_of, IsAmong, Row, Rule, Shape, first_of, fault_of, new_rule, subcommand_of}
use Rattle.clap.specs.Simple.{new_shape, with_subcommand}
use Rattle.kd_state.specs.SheetDay.{IsDayNumber}
use Rattle.kd_curator_command.specs.Days.{AreDays}
use Rattle.kd_curator_command.specs.Locale.{language_code, language_with_code}
use Rattle.kd_language.specs.declared.language.Language.{Language}
use Rattle.kd_pictures.specs.declared.results.Results.{Results}
use Rattle.kd_pictures.specs.declared.results.Results.TheVariants.{LeftOpen, Shown}
use Rattle.clap.specs.declared.builder.action.ArgAction.TheVariants.{Append, SetTrue}
use Rattle.kd_tables.specs.Direction.{direction_name}
use Rattle.kd_tables.specs.Tables.{model_text}
use Rattle.kd_tables.specs.declared.direction.Direction.{Direction}
use Rattle.kd_tables.specs.declared.direction.Direction.TheVariants.{Receive, Send}
use Rattle.kd_tables.specs.declared.model.Model.{Model}
use Rattle.kd_options.specs.TableOptions.{OptionTexts, texts_of}
use Rattle.kd_options.specs.declared.table_form.TableForm.{TableForm}
use Rattle.kd_options.specs.declared.table_form.TableForm.TheVariants as forms
use Rattle.kd_curator_command.specs.declared.command.Command.{Command}
use Rattle.kd_curator_command.specs.declared.command.Command.TheVariants as commands
use Rattle.kd_curator_command.specs.declared.command.MessageTask.{MessageTask}
use Rattle.kd_curator_command.specs.declared.command.NoCommand.{NoCommand}
use Rattle.kd_curator_command.specs.declared.command.NoCommand.TheVariants.{Asked, Usage, NoMemory}
use Rattle.kd_curator_command.specs.declared.command.Task.{Task}
use Rattle.kd_curator_command.specs.declared.command.Task.TheVariants as tasks
use Rattle.kd_curator_command.specs.declared.grammar.Argument.{Argument}
use Rattle.kd_curator_command.specs.declared.grammar.CommandWords.{CommandWords}
use Rattle.kd_curator_command.specs.declared.grammar.ArgumentSort.{ArgumentSort}
use Rattle.kd_curator_command.specs.declared.grammar.ArgumentSort.TheVariants as sorts

-- an argument that may be left out; its value has a name in help and errors
abbrev pub optional : List ℕ → Rule
optional name = record (new_rule name) { value_names = 1 }

-- an argument that has to be given
abbrev pub needed : List ℕ → Rule
needed name = record (optional name) { required = true }

-- an argument that has to be given, and may have several values
abbrev pub several : List ℕ → Rule
several name = record (needed name) { action = Some Append }

abbrev pub command_shape : List ℕ → Rule → Shape
command_shape name last = record (new_shape name) {
  rules = needed (codes "MACHINE") ∷ needed (codes "SHEET") ∷ last ∷ [];
}

-- an option with a value
abbrev pub option_rule : List ℕ → Rule
option_rule name = record (new_rule name) { long = Some name; value_names = 1 }

-- the option `--in`, which takes the language of the program's words
abbrev pub language_option : Rule
language_option = option_rule (codes "in")

-- an option of one letter, such as `-o`, with a value
abbrev pub lettered : List ℕ → ℕ → Rule
lettered name letter = record (new_rule name) { short = Some letter; value_names = 1 }

-- the option `-o` (byte 111), which takes the name of the output file
abbrev pub output_option : Rule
output_option = lettered (codes "output") 111

-- the grammar of a command, with one more argument
abbrev pub with_rule : Shape → Rule → Shape
with_rule shape rule = record shape { rules = shape.rules ++ rule ∷ [] }

abbrev pub page_shape : Shape
page_shape =
    with_rule (with_rule (command_shape (codes "page") (optional (codes "DAYS"))) language_option) output_option

abbrev pub list_shape : Shape
list_shape =
    with_rule (with_rule (command_shape (codes "list") (needed (codes "DAY"))) language_option) output_option

-- an option that takes no value
abbrev pub flag : List ℕ → Rule
flag name = record (new_rule name) { long = Some name; action = Some SetTrue }

-- the option `--csv`, which takes no value
abbrev pub csv_flag : Rule
csv_flag = flag (codes "csv")

abbrev pub table_shape : Shape
table_shape = record (new_shape (codes "table")) {
  rules = csv_flag ∷ needed (codes "SHEET") ∷ language_option ∷ output_option ∷ [];
}

abbrev pub sheet_shape : Shape
sheet_shape = record (new_shape (codes "sheet")) {
  rules = option_rule (codes "model") ∷ option_rule (codes "reflector") ∷ option_rule (codes "window")
      ∷ option_rule (codes "empty") ∷ needed (codes "TABLE") ∷ language_option ∷ output_option ∷ [];
}

abbrev pub look_shape : Shape
look_shape = record (new_shape (codes "look")) {
  rules = needed (codes "FILE") ∷ optional (codes "FILE2") ∷ optional (codes "FILE3") ∷ language_option ∷ [];
}

-- the option `--blank`, which takes no value
abbrev pub blank_flag : Rule
blank_flag = flag (codes "blank")

abbrev pub message_shape : List ℕ → Rule → Shape
message_shape name message =
    with_rule (with_rule (with_rule (with_rule (command_shape name (needed (codes "DAY"))) message) blank_flag)
    language_option) output_option

abbrev pub send_shape : Shape
send_shape = message_shape (codes "send") (several (codes "ORDER"))

abbrev pub receive_shape : Shape
receive_shape = message_shape (codes "receive") (needed (codes "FORM"))

abbrev pub type_shape : Shape
type_shape = record (new_shape (codes "type")) {
  rules = needed (codes "MACHINE") ∷ language_option ∷ output_option ∷ [];
}

-- the grammar of the program alone, without its commands
abbrev pub program_alone : App
program_alone = record {
  top = record (new_shape (codes "curator")) {
    disable_help_subcommand = true;
    has_version = true;
    subcommand_required = true;
    arg_required_else_help = true;
  };
  subs = [];
}

-- the grammar of the program, with its commands
unfoldable pub curator_grammar : App
curator_grammar = record {
  top = record program_alone.top { is_leaf = false };
  subs = page_shape ∷ list_shape ∷ send_shape ∷ receive_shape ∷ type_shape ∷ table_shape ∷ sheet_shape ∷ look_shape
      ∷ [];
}

-- ---- Which command a command line means.
-- Code: `clap` parses the command line; `command_of` makes the command from the arguments that `clap` found.
-- Test: tests/cases/curator-words.toml

-- A command with the names of its files, before any file is read.
abbrev pub NamedCommand : Type 0
NamedCommand = Command (List ℕ)

-- the names, with plain texts in place of borrowed texts
abbrev pub unborrowed_names : List (Bor (List ℕ)) → List (List ℕ)
unborrowed_names names = map (λ name. name.now) names

-- the command, with plain texts in place of borrowed texts
abbrev pub unborrowed_command : Command (Bor (List ℕ)) → NamedCommand
unborrowed_command (commands.OnMachine machine sheet task) = commands.OnMachine machine.now sheet.now task
unborrowed_command (commands.Message machine sheet message task) =
    commands.Message machine.now sheet.now message.now task
unborrowed_command (commands.Orders machine sheet orders task) =
    commands.Orders machine.now sheet.now (record { items = unborrowed_names orders.items }) task
unborrowed_command (commands.TypingPage machine) = commands.TypingPage machine.now
unborrowed_command (commands.Table sheet form) = commands.Table sheet.now form
unborrowed_command (commands.Sheet table options) = commands.Sheet table.now (texts_of options)
unborrowed_command (commands.Look files) = commands.Look (record { items = unborrowed_names files.items })
unborrowed_command (commands.EmptySheet model days) = commands.EmptySheet model days

-- `days` are the days that the argument DAYS names. `None` means that the argument isn't given.
abbrev pub HasDays : List Row → Option (List ℕ) → Type 0
HasDays rows None = first_of (codes "DAYS") rows ≡ None
HasDays rows (Some days) =
    (word : List ℕ) × (first_of (codes "DAYS") rows ≡ Some word) × AreDays word days

-- The argument DAY is the decimal number of the day `day`, from 1 to 31.
abbrev pub HasDay : List Row → ℕ → Type 0
HasDay rows day = (first_of (codes "DAY") rows ≡ Some (decimal day)) × IsDayNumber day

abbrev pub task_name : Task → List ℕ
task_name (tasks.Page days) = codes "page"
task_name (tasks.List day) = codes "list"

-- The arguments in `rows` ask for the task. For pages, they name the days; for a list, they name the day.
abbrev pub HasArguments : List Row → Task → Type 0
HasArguments rows (tasks.Page days) = HasDays rows days
HasArguments rows (tasks.List day) = HasDay rows day

-- `said` is a command's name with its arguments. It asks for the task `task`: for pages, or for a list.
pub record IsTaskOf (said : List ℕ × List Row) (task : Task) : Type 0 where
  pub name : said.0 ≡ task_name task
  pub arguments : HasArguments said.1 task

-- `said` is a command's name with its arguments. It asks for the task `its_task`. The files are `machine_file` and
-- `key_sheet`.
pub record IsTaskWith (said : List ℕ × List Row) (machine_file key_sheet : List ℕ) (its_task : Task) : Type 0 where
  pub machine : first_of (codes "MACHINE") said.1 ≡ Some machine_file
  pub sheet : first_of (codes "SHEET") said.1 ≡ Some key_sheet
  pub task : IsTaskOf said its_task

-- The option `name`, which takes no value, is used. `clap` then gives it the value `true`.
abbrev pub IsUsed : List ℕ → List Row → Type 0
IsUsed name rows = first_of name rows ≡ Some (codes "true")

-- The arguments in `rows` ask for a CSV table if they have the option `--csv`, otherwise for a page.
abbrev pub HasForm : List Row → TableForm → Type 0
HasForm rows forms.Csv = IsUsed (codes "csv") rows
HasForm rows forms.Page = ¬ (IsUsed (codes "csv") rows)

-- The arguments in `rows` say whether the page shows the results. With the option `--blank`, the page has worksheets
-- instead.
abbrev pub HasResults : List Row → Results → Type 0
HasResults rows LeftOpen = IsUsed (codes "blank") rows
HasResults rows Shown = ¬ (IsUsed (codes "blank") rows)

-- The arguments in `rows` name exactly one message: an order to send, or a form to receive.
abbrev pub HasMessage : List Row → Direction → List ℕ → Type 0
HasMessage rows Send order = all_of (codes "ORDER") rows ≡ Some (order ∷ [])
HasMessage rows Receive form = first_of (codes "FORM") rows ≡ Some form

-- `said` names the command `send` and one order, or `receive` and a form. The task is `its_task`. The files are
-- `machine_file`, `key_sheet` and `its_message`.
pub record IsMessageOf (said : List ℕ × List Row) (machine_file key_sheet its_message : List ℕ) (its_task : MessageTask)
    : Type 0 where
  pub name : said.0 ≡ direction_name its_task.direction
  pub machine : first_of (codes "MACHINE") said.1 ≡ Some machine_file
  pub sheet : first_of (codes "SHEET") said.1 ≡ Some key_sheet
  pub message : HasMessage said.1 its_task.direction its_message
  pub day : HasDay said.1 its_task.day
  pub results : HasResults said.1 its_task.results

-- The arguments in `rows` ask for `task`: they give its day, and say whether the page shows the results. The task's
-- direction is `direction`.
pub record IsMessageTask (rows : List Row) (direction : Direction) (task : MessageTask) : Type 0 where
  pub same : task.direction ≡ direction
  pub day : HasDay rows task.day
  pub results : HasResults rows task.results

-- `said` names the command `send` and 2 to 32 orders. The task is `its_task`. The files are `machine_file`,
-- `key_sheet` and `its_orders`.
pub record IsOrdersOf (said : List ℕ × List Row) (machine_file key_sheet : List ℕ) (its_orders : List (List ℕ))
    (its_task : MessageTask) : Type 0 where
  pub name : said.0 ≡ codes "send"
  pub machine : first_of (codes "MACHINE") said.1 ≡ Some machine_file
  pub sheet : first_of (codes "SHEET") said.1 ≡ Some key_sheet
  pub orders : all_of (codes "ORDER") said.1 ≡ Some its_orders
  pub several : 2 ≤ length its_orders
  pub few : length its_orders ≤ 32
  pub task : IsMessageTask said.1 Send its_task

-- `said` names the command `type` and the machine file `machine_file`.
pub record IsTypingPageOf (said : List ℕ × List Row) (machine_file : List ℕ) : Type 0 where
  pub name : said.0 ≡ codes "type"
  pub machine : first_of (codes "MACHINE") said.1 ≡ Some machine_file

-- `said` names the command `table` and the key sheet `key_sheet`. The tables have the form `its_form`.
pub record IsTableOf (said : List ℕ × List Row) (key_sheet : List ℕ) (its_form : TableForm) : Type 0 where
  pub name : said.0 ≡ codes "table"
  pub sheet : first_of (codes "SHEET") said.1 ≡ Some key_sheet
  pub form : HasForm said.1 its_form

-- the value of the option `name`; empty if the option isn't used
abbrev pub option_text : List ℕ → List Row → List ℕ
option_text name rows = unwrap_or (first_of name rows) []

-- the values of the options `--model`, `--reflector` and `--window`; empty for an option that isn't used
abbrev pub option_texts : List Row → OptionTexts
option_texts rows = record {
  model = option_text (codes "model") rows;
  reflector = option_text (codes "reflector") rows;
  window = option_text (codes "window") rows;
}

-- whether the options `--model`, `--reflector` and `--window` are all empty
abbrev pub are_blank : OptionTexts → Bool
are_blank options =
    (length options.model == 0) && (length options.reflector == 0) && (length options.window == 0)

-- `said` names the command `sheet`, without `--empty`. The table is `its_table`, and the options are `its_options`.
pub record IsSheetOf (said : List ℕ × List Row) (its_table : List ℕ) (its_options : OptionTexts) : Type 0 where
  pub name : said.0 ≡ codes "sheet"
  pub filled : first_of (codes "empty") said.1 ≡ None
  pub table : first_of (codes "TABLE") said.1 ≡ Some its_table
  pub options : its_options ≡ option_texts said.1

-- `model_word` is the name of `model`. `days_word` is the number `days` in decimal, from 1 to 31.
pub record IsMonthNamed (model_word days_word : List ℕ) (model : Model) (days : ℕ) : Type 0 where
  pub named : model_text model ≡ model_word
  pub numbered : decimal days ≡ days_word
  pub within : IsDayNumber days

-- `said` names the command `sheet --empty`, for `model` and a month of `days` days. The options `--model`,
-- `--reflector` and `--window` aren't used, or are empty.
pub record IsEmptySheetOf (said : List ℕ × List Row) (model : Model) (days : ℕ) : Type 0 where
  pub name : said.0 ≡ codes "sheet"
  pub model_word : List ℕ
  pub empty : first_of (codes "empty") said.1 ≡ Some model_word
  pub days_word : List ℕ
  pub table : first_of (codes "TABLE") said.1 ≡ Some days_word
  pub month : IsMonthNamed model_word days_word model days
  pub alone : are_blank (option_texts said.1) ≡ true

-- the values of the arguments FILE, FILE2 and FILE3 that are given, in this order
abbrev pub files_said : List Row → List (List ℕ)
files_said rows = filter_map (λ name. first_of name rows) (codes "FILE" ∷ codes "FILE2" ∷ codes "FILE3" ∷ [])

-- `said` names the command `look` and the files `its_files`. The argument FILE is given.
pub record IsLookOf (said : List ℕ × List Row) (its_files : List (List ℕ)) : Type 0 where
  pub name : said.0 ≡ codes "look"
  pub first : IsSome (first_of (codes "FILE") said.1)
  pub files : its_files ≡ files_said said.1

-- `said` is a command's name with its arguments. It means the command.
abbrev pub IsCommandOf : List ℕ × List Row → NamedCommand → Type 0
IsCommandOf said (commands.OnMachine machine sheet task) = IsTaskWith said machine sheet task
IsCommandOf said (commands.Message machine sheet message task) = IsMessageOf said machine sheet message task
IsCommandOf said (commands.Orders machine sheet orders task) = IsOrdersOf said machine sheet orders.items task
IsCommandOf said (commands.TypingPage machine) = IsTypingPageOf said machine
IsCommandOf said (commands.Table sheet form) = IsTableOf said sheet form
IsCommandOf said (commands.Sheet table options) = IsSheetOf said table options
IsCommandOf said (commands.Look files) = IsLookOf said files.items
IsCommandOf said (commands.EmptySheet model days) = IsEmptySheetOf said model days

-- `said` isn't `None`: it has a command's name and arguments that mean `command`.
abbrev pub IsMeant : Option (List ℕ × List Row) → NamedCommand → Type 0
IsMeant said command = IsSomeAnd said (λ x. IsCommandOf x command)

-- the value of the argument `name`; `None` if the argument isn't given, or there is no command
abbrev pub value_said : List ℕ → Option (List ℕ × List Row) → Option (List ℕ)
value_said name said = option_and_then (λ x. first_of name x.1) said

-- The value of the option `--in` is the code of `language`. `None` means that the option isn't used.
abbrev pub HasLanguage : Option (List ℕ × List Row) → Option Language → Type 0
HasLanguage said language = value_said (codes "in") said ≡ option_map language_code language

-- the language that the option `--in` asks for in the command line `words`; `None` if the option isn't used, or if its
-- value is no language's code
abbrev pub asked_language : List (List ℕ) → Option Language
asked_language words =
    option_and_then language_with_code (value_said (codes "in") (subcommand_of curator_grammar words))

-- the language that the option `--in` asks for in the command line `words`; if the words ask for none, `language`
abbrev pub chosen_language : Language → List (List ℕ) → Language
chosen_language language words = unwrap_or (asked_language words) language

-- The command line `words` fits the grammar, and means `command`. The first word is the program's own name. If the
-- option `--in` is used, its value is the code of a language.
pub record IsCommandLineOf (words : List (List ℕ)) (command : NamedCommand) : Type 0 where
  pub taken : fault_of curator_grammar words ≡ []
  pub said : IsMeant (subcommand_of curator_grammar words) command
  pub language : HasLanguage (subcommand_of curator_grammar words) (asked_language words)

-- the name of the output file in the command line `words`; `None` if the words don't name an output file
abbrev pub output_of : List (List ℕ) → Option (List ℕ)
output_of words = value_said (codes "output") (subcommand_of curator_grammar words)

abbrev pub IsNoCommandLine : List (List ℕ) → Type 0
IsNoCommandLine words = (command : NamedCommand) → ¬ (IsCommandLineOf words command)

-- A command line means at most one command.
abbrev pub CommandLinesMeanOneCommand : Type 0
CommandLinesMeanOneCommand =
    (words : List (List ℕ)) (one other : NamedCommand) → IsCommandLineOf words one → IsCommandLineOf words other
    → one ≡ other

-- ---- Command lines that mean no command.

-- whether `clap` gives an error of this kind to show help or the version
abbrev pub is_help : ErrorKind → Bool
is_help DisplayHelp = true
is_help DisplayVersion = true
is_help _ = false

-- The command line asks for help or for the version, and has no fault that `clap` finds.
abbrev pub AsksForHelp : List (List ℕ) → Type 0
AsksForHelp words = (kind : ErrorKind) × (fault_of curator_grammar words ≡ kind ∷ []) × IsTrue (is_help kind)

-- Why there is no command:
-- - `Asked`: a word asks for help or for the version.
-- - `Usage`: the words don't mean a command, and don't only ask for help or for the version.
-- - `NoMemory`: memory ran out.
abbrev pub HasNoCommand : List (List ℕ) → NoCommand → Type 0
HasNoCommand words (Asked text) =
    (kind : ErrorKind) × IsAmong kind (fault_of curator_grammar words) × IsTrue (is_help kind)
HasNoCommand words (Usage text) = IsNoCommandLine words × ¬ (AsksForHelp words)
HasNoCommand words NoMemory = Unit {0}

-- ---- Grammars and errors in the contracts of private functions. No public contract cites these definitions.

-- the rule for an argument that has the name `name` and the given sort
abbrev pub rule_of_sort : List ℕ → ArgumentSort → Rule
rule_of_sort name sorts.Needed = needed name
rule_of_sort name sorts.Several = several name
rule_of_sort name sorts.Optional = optional name
rule_of_sort name (sorts.Valued value) = option_rule name
rule_of_sort name (sorts.Lettered letter value) = lettered name letter
rule_of_sort name sorts.Flag = flag name

abbrev pub rule_of_argument : Argument → Rule
rule_of_argument argument = rule_of_sort argument.name.now argument.sort

-- the grammar of a command; it has a rule for each of the command's arguments
abbrev pub shape_of : CommandWords → Shape
shape_of words = record (new_shape words.name.now) { rules = map rule_of_argument words.arguments.now }

-- the grammar `app`, with `commands` added
abbrev pub with_commands : App → List CommandWords → App
with_commands app commands = fold (λ a words. with_subcommand a (shape_of words)) app commands

-- `grammar` is the grammar of the command `shape`, and has no global arguments.
pub record IsMadeOf (grammar : Grammar) (shape : Shape) : Type 0 where
  pub made : app_of grammar ≡ record { top = shape; subs = [] }
  pub local : (out-Command grammar).has_globals ≡ false

-- What the program may return if `clap` gives an error of the kind `kind`:
-- - `Asked`: for help and for the version.
-- - `Usage`: for all other kinds except `OutOfMemory`.
-- - `NoMemory`: for any kind.
abbrev pub IsToldAs : ErrorKind → NoCommand → Type 0
IsToldAs kind (Asked text) = IsTrue (is_help kind)
IsToldAs kind (Usage text) = (is_help kind ≡ false) × (kind ≢ OutOfMemory)
IsToldAs kind NoMemory = Unit {0}
