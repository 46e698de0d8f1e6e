use Rattle.kd_curator_command.proofs.Prelude.{ap, ◌∙◌, ℕ, rule_of, Rule, Some}
use Rattle.kd_curator_command.proofs.Grammars.{named_rule}
use Rattle.kd_curator_command.proofs.grammar.lettered.Goals as goal

abbrev short_rule : ℕ → Rule → Rule
short_rule letter rule = record rule { short = Some letter }

pub returns-clause-rule : goal.returns-clause-rule
returns-clause-rule c =
    ap rule_of c.help.ensures ∙ ap rule_of c.value_name.ensures
    ∙ ap named_rule (ap rule_of c.short.ensures ∙ ap (short_rule c.args.letter) c.new.ensures.rule)
