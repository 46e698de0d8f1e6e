use Rattle.kd_curator_command.proofs.Prelude.{ap, ◌∙◌, rule_of, Rule}
use Rattle.kd_curator_command.proofs.Grammars.{named_rule}
use Rattle.kd_curator_command.proofs.grammar.optional.Goals as goal

pub returns-clause-rule : goal.returns-clause-rule
returns-clause-rule c =
    ap rule_of c.help.ensures ∙ ap rule_of c.value_name.ensures ∙ ap named_rule c.new.ensures.rule
