use Rattle.kd_curator_command.proofs.Prelude.{ap, ◌∙◌, rule_of, Rule, Some, true}
use Rattle.kd_curator_command.proofs.Grammars.{named_rule, required_rule}
use Rattle.clap.specs.declared.builder.action.ArgAction.TheVariants.{Append}
use Rattle.kd_curator_command.proofs.grammar.several.Goals as goal

abbrev append_rule : Rule → Rule
append_rule rule = record rule { action = Some Append }

pub returns-clause-rule : goal.returns-clause-rule
returns-clause-rule c =
    ap rule_of c.help.ensures ∙ ap rule_of c.value_name.ensures
    ∙ ap named_rule (ap rule_of c.action.ensures
    ∙ ap append_rule (ap rule_of c.required.ensures ∙ ap required_rule c.new.ensures.rule))
