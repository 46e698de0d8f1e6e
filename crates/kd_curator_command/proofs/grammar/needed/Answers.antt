use Rattle.kd_curator_command.proofs.Prelude.{ap, ◌∙◌, rule_of, Rule, true}
use Rattle.kd_curator_command.proofs.Grammars.{named_rule, required_rule}
use Rattle.kd_curator_command.proofs.grammar.needed.Goals as goal

pub returns-clause-rule : goal.returns-clause-rule
returns-clause-rule c =
    ap rule_of c.help.ensures ∙ ap rule_of c.value_name.ensures
    ∙ ap named_rule (ap rule_of c.required.ensures ∙ ap required_rule c.new.ensures.rule)
