use Rattle.kd_curator_command.{proofs.Prelude.{◌≡◌, app_of, take}, specs.CommandLine.with_commands}
use Rattle.kd_curator_command.proofs.grammar.with_commands.Given as goal

abbrev pub invariant-loop-words : goal.invariant-loop-words
invariant-loop-words l = app_of l.grammar ≡ with_commands (app_of l.fn.grammar) (take l.words-index l.commands)
