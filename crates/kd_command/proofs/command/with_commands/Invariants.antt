use Rattle.kd_command.{proofs.Prelude.{◌≡◌, app_of, take}, specs.Inner.with_commands}
use Rattle.kd_command.proofs.command.with_commands.Given as goal

abbrev pub invariant-loop-name : goal.invariant-loop-name
invariant-loop-name l = app_of l.grammar ≡ with_commands (app_of l.fn.grammar) (take l.name-index l.commands)
