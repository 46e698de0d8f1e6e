use Rattle.kd_curator_command.proofs.Prelude.{true, ap, ◌∙◌, App, app_of_fields}
use Rattle.kd_curator_command.proofs.grammar.program_grammar.Goals as goal

abbrev with_version : App → App
with_version a = record a { top = record a.top { has_version = true } }

abbrev without_help_command : App → App
without_help_command a = record a { top = record a.top { disable_help_subcommand = true } }

abbrev with_needed_command : App → App
with_needed_command a = record a { top = record a.top { subcommand_required = true } }

abbrev with_help_for_none : App → App
with_help_for_none a = record a { top = record a.top { arg_required_else_help = true } }

pub returns : goal.returns
returns c =
    ap app_of_fields c.arg_required_else_help.ensures
    ∙ ap with_help_for_none (ap app_of_fields c.subcommand_required.ensures
    ∙ ap with_needed_command (ap app_of_fields c.disable_help_subcommand.ensures
    ∙ ap without_help_command (ap app_of_fields c.version.ensures
    ∙ ap with_version (ap app_of_fields c.about.ensures ∙ c.new.ensures.app))))
