use Rattle.kd_command.proofs.Prelude.{true, ap, codes, ◌≡◌, ◌∙◌, App, app_of, new_app, app_of_fields}
use Rattle.{kd_command.proofs.Grammars.without_help, kd_command.specs.CommandLine.desk_grammar}
use Rattle.kd_command.proofs.command.grammar.Goals as goal

abbrev without_help_command : App → App
without_help_command a = record a { top = record a.top { disable_help_subcommand = true } }

pub returns : goal.returns
unfolding desk_grammar
returns c =
    let empty : app_of c.disable_help_subcommand-desk.result
    ≡ without_help_command (without_help (new_app (codes "desk"))) =
    ap app_of_fields c.disable_help_subcommand-desk.ensures
    ∙ ap without_help_command (ap app_of_fields c.disable_help_flag.ensures ∙ ap without_help c.new.ensures.app) in
    c.with_commands.ensures _ empty
