-- Conditions in the contracts of private functions that build the grammar and read the arguments. No public contract
-- cites these definitions.
use Rattle.std.specs.Prelude.{◌≡◌, ℕ, false, List, [], map, fold}
use Rattle.std.specs.Borrow.{Bor}
use Rattle.clap.specs.declared.builder.command.Command.{Command as Grammar, out-Command}
use Rattle.clap.specs.Words.{App, app_of, Row, Shape}
use Rattle.clap.specs.Simple.{with_subcommand}
use Rattle.kd_command.specs.declared.command.Action.{Action}
use Rattle.kd_command.specs.declared.command.Task.{Task}
use Rattle.kd_command.specs.CommandLine.{NamedCommand, IsCommandOf, command_shape, with_action_files, with_task_files}

-- a grammar that has only the command `shape`, and no subcommands
abbrev pub app_without_subcommands : Shape → App
app_without_subcommands shape = record { top = shape; subs = [] }

-- `command_shape name words`, for argument names `words` that are borrowed
abbrev pub borrowed_shape : List ℕ → List (Bor (List ℕ)) → Shape
borrowed_shape name words = command_shape name (map (λ word. word.now) words)

-- The grammar `app`, with a subcommand added for each item of `commands`. An item has the command's name, and the names
-- of the command's arguments.
abbrev pub with_commands : App → List (Bor (List ℕ) × Bor (List (Bor (List ℕ)))) → App
with_commands app commands = fold (λ a command. with_subcommand a (borrowed_shape command.0.now command.1.now)) app
    commands

-- `grammar` is the command `name` with an argument for each of `words`. No argument is global, that is, valid in
-- subcommands, too.
pub record IsMadeOf (grammar : Grammar) (name : List ℕ) (words : List (Bor (List ℕ))) : Type 0 where
  pub shape : app_of grammar ≡ app_without_subcommands (borrowed_shape name words)
  pub local : (out-Command grammar).has_globals ≡ false

-- The name and the argument values in `said` mean no command.
abbrev pub IsNoCommand : List ℕ × List Row → Type 0
IsNoCommand said = (command : NamedCommand) → ¬ (IsCommandOf said command)

-- the task, with its borrowed file name (if it has a file) replaced by the name itself
abbrev pub unborrowed_task : Task (Bor (List ℕ)) (Bor (List ℕ)) → Task (List ℕ) (List ℕ)
unborrowed_task task = with_task_files (λ name. name.now) (λ name. name.now) task

-- the action, with each borrowed file name replaced by the name itself
abbrev pub unborrowed_action : Action (Bor (List ℕ)) (Bor (List ℕ)) → Action (List ℕ) (List ℕ)
unborrowed_action action = with_action_files (λ name. name.now) (λ name. name.now) action
