use Rattle.kd_curator_command.proofs.Prelude.{ap, ◌∙◌, ℕ, List, rule_of, Rule, Some}
use Rattle.kd_curator_command.proofs.Grammars.{named_rule}
use Rattle.kd_curator_command.proofs.grammar.option.Goals as goal

abbrev long_rule : List ℕ → Rule → Rule
long_rule name rule = record rule { long = Some name }

pub returns-clause-rule : goal.returns-clause-rule
returns-clause-rule c =
    ap rule_of c.help.ensures ∙ ap rule_of c.value_name.ensures
    ∙ ap named_rule (ap rule_of c.long.ensures ∙ ap (long_rule c.args.name.now) c.new.ensures.rule)
