-- The grammar of the desk's command line: the six commands with their arguments, without options or help.
-- Code: `grammar` builds the grammar by calls of the library `clap`.
-- Test: tests/cases/desk-words.toml
use Rattle.std.specs.Prelude.{codes, decimal, ◌≡◌, ℕ, true, false, List, [], ◌∷◌, ◌++◌, map, Option, Some, None}
use Rattle.std.specs.Prelude.{IsSomeAnd}
use Rattle.std.specs.Borrow.{Bor}
use Rattle.clap.specs.Words.{App, Row, Shape, first_of, fault_of, new_rule, subcommand_of}
use Rattle.clap.specs.Simple.{new_shape}
use Rattle.kd_state.specs.SheetDay.{IsDayNumber}
use Rattle.kd_command.specs.declared.command.Command.{Command}
use Rattle.kd_command.specs.declared.command.Action.{Action}
use Rattle.kd_command.specs.declared.command.Action.TheVariants as actions
use Rattle.kd_command.specs.declared.command.Task.{Task}
use Rattle.kd_command.specs.declared.command.Task.TheVariants as tasks
use Rattle.kd_tables.specs.Direction.{direction_name, direction_word}
use Rattle.kd_tables.specs.declared.direction.Direction.{Direction}
use Rattle.kd_tables.specs.declared.direction.Direction.TheVariants.{Send, Receive}

-- the command `name` with an argument for each of `words`, without options or help
abbrev pub command_shape : List ℕ → List (List ℕ) → Shape
command_shape name words = record (new_shape name) {
  disable_help_flag = true;
  rules = map new_rule words;
}

-- the names of three arguments: a machine file, a sheet and a day
abbrev pub day_words : List (List ℕ)
day_words = codes "MACHINE" ∷ codes "SHEET" ∷ codes "DAY" ∷ []

abbrev pub type_shape : Shape
type_shape = command_shape (codes "type") (codes "MACHINE" ∷ [])

abbrev pub apply_shape : Shape
apply_shape = command_shape (codes "apply") (codes "MACHINE" ∷ codes "LIST" ∷ [])

abbrev pub card_shape : Shape
card_shape = command_shape (codes "card") day_words

-- the command `name` with a machine file, a sheet, a day, and one more file as the argument `word`
abbrev pub file_shape : List ℕ → List ℕ → Shape
file_shape name word = command_shape name (day_words ++ word ∷ [])

abbrev pub check_shape : Shape
check_shape = file_shape (codes "check") (codes "CARD")

abbrev pub direction_shape : Direction → Shape
direction_shape direction = file_shape (direction_name direction) (direction_word direction)

-- the grammar of the desk: its six commands
unfoldable pub desk_grammar : App
desk_grammar = record {
  top = record (new_shape (codes "desk")) {
    disable_help_flag = true;
    disable_help_subcommand = true;
    is_leaf = false;
  };
  subs = type_shape ∷ apply_shape ∷ card_shape ∷ check_shape ∷ direction_shape Send ∷ direction_shape Receive ∷ [];
}

-- ---- A command whose files are replaced by other values, such as their bytes.
-- Code: `Command` has two type parameters: one for files that are read whole, and one for a file that is streamed.
-- Test: tests/cases/desk-program.toml

-- the task, with `f` applied to its file if the file is read whole, or `g` if the file is streamed
abbrev pub with_task_files : {F G O P : Type 0} → (F → G) → (O → P) → Task F O → Task G P
with_task_files f g tasks.Card = tasks.Card
with_task_files f g (tasks.Check card) = tasks.Check (f card)
with_task_files f g (tasks.Message direction file) = tasks.Message direction (g file)

abbrev pub with_action_files : {F G O P : Type 0} → (F → G) → (O → P) → Action F O → Action G P
with_action_files f g actions.Type = actions.Type
with_action_files f g (actions.Apply list) = actions.Apply (f list)
with_action_files f g (actions.OnDay sheet day task) = actions.OnDay (f sheet) day (with_task_files f g task)

abbrev pub with_files : {F G O P : Type 0} → (F → G) → (O → P) → Command F O → Command G P
with_files f g command = record { machine = f command.machine; action = with_action_files f g command.action }

-- the command, with each borrowed file name replaced by the name itself
abbrev pub unborrowed_command : Command (Bor (List ℕ)) (Bor (List ℕ)) → Command (List ℕ) (List ℕ)
unborrowed_command command = with_files (λ name. name.now) (λ name. name.now) command

-- the command, with `g` applied to its streamed file, if it has one
abbrev pub with_command_stream : {F O P : Type 0} → (O → P) → Command F O → Command F P
with_command_stream g command = with_files (λ file. file) g command

-- the file that is streamed, if the task has one
abbrev pub task_stream : {F O : Type 0} → Task F O → Option O
task_stream tasks.Card = None
task_stream (tasks.Check card) = None
task_stream (tasks.Message direction file) = Some file

abbrev pub action_stream : {F O : Type 0} → Action F O → Option O
action_stream actions.Type = None
action_stream (actions.Apply list) = None
action_stream (actions.OnDay sheet day task) = task_stream task

abbrev pub command_stream : {F O : Type 0} → Command F O → Option O
command_stream command = action_stream command.action

-- ---- Which command a command line means, and the names of its files.
-- Code: `clap` parses the command line; `command_of` makes the command from the arguments that `clap` found.
-- Test: tests/cases/desk-words.toml, tests/cases/desk-program.toml

-- A command that has the names of its files, not the files themselves.
abbrev pub NamedCommand : Type 0
NamedCommand = Command (List ℕ) (List ℕ)

abbrev pub NamedAction : Type 0
NamedAction = Action (List ℕ) (List ℕ)

abbrev pub NamedTask : Type 0
NamedTask = Task (List ℕ) (List ℕ)

-- the name of the command that does the task
abbrev pub task_name : NamedTask → List ℕ
task_name tasks.Card = codes "card"
task_name (tasks.Check card) = codes "check"
task_name (tasks.Message direction file) = direction_name direction

abbrev pub action_name : NamedAction → List ℕ
action_name actions.Type = codes "type"
action_name (actions.Apply list) = codes "apply"
action_name (actions.OnDay sheet day task) = task_name task

-- Among the arguments in `rows`, SHEET has the value `sheet`, and DAY has the value `day`, in decimal.
pub record HaveSheetAndDay (rows : List Row) (sheet : List ℕ) (day : ℕ) : Type 0 where
  pub sheet_word : first_of (codes "SHEET") rows ≡ Some sheet
  pub day_word : first_of (codes "DAY") rows ≡ Some (decimal day)
  pub of_month : IsDayNumber day

-- If the task needs a third file, such as CARD for `check`, one of the arguments has this file's
-- name.
abbrev pub HasTaskFile : List Row → NamedTask → Type 0
HasTaskFile rows tasks.Card = Unit {0}
HasTaskFile rows (tasks.Check card) = first_of (codes "CARD") rows ≡ Some card
HasTaskFile rows (tasks.Message direction file) = first_of (direction_word direction) rows ≡ Some file

abbrev pub HasActionWords : List Row → NamedAction → Type 0
HasActionWords rows actions.Type = Unit {0}
HasActionWords rows (actions.Apply list) = first_of (codes "LIST") rows ≡ Some list
HasActionWords rows (actions.OnDay sheet day task) = HaveSheetAndDay rows sheet day × HasTaskFile rows task

-- `said` is a command's name and the values of its arguments. Together they mean the action `action`.
pub record IsActionOf (said : List ℕ × List Row) (action : NamedAction) : Type 0 where
  pub name : said.0 ≡ action_name action
  pub words : HasActionWords said.1 action

-- `said` is a command's name and the values of its arguments. Together they mean the command `command`.
pub record IsCommandOf (said : List ℕ × List Row) (command : NamedCommand) : Type 0 where
  pub machine : first_of (codes "MACHINE") said.1 ≡ Some command.machine
  pub action : IsActionOf said command.action

-- The command line `words` fits the grammar and means `command`. Its first word is the program's own name.
pub record IsCommandLineOf (words : List (List ℕ)) (command : NamedCommand) : Type 0 where
  pub taken : fault_of desk_grammar words ≡ []
  pub said : IsSomeAnd (subcommand_of desk_grammar words) (λ said. IsCommandOf said command)

abbrev pub IsNoCommandLine : List (List ℕ) → Type 0
IsNoCommandLine words = (command : NamedCommand) → ¬ (IsCommandLineOf words command)

-- the names of a task's files, in the order of the command line
abbrev pub task_files : NamedTask → List (List ℕ)
task_files tasks.Card = []
task_files (tasks.Check card) = card ∷ []
task_files (tasks.Message direction file) = file ∷ []

abbrev pub action_files : NamedAction → List (List ℕ)
action_files actions.Type = []
action_files (actions.Apply list) = list ∷ []
action_files (actions.OnDay sheet day task) = sheet ∷ task_files task

abbrev pub files_of : NamedCommand → List (List ℕ)
files_of command = command.machine ∷ action_files command.action
