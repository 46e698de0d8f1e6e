use Rattle.kd_curator_command.proofs.Prelude.{ap, ◌∙◌, ℕ, List, rule_of, Rule, Some}
use Rattle.clap.specs.declared.builder.action.ArgAction.TheVariants.{SetTrue}
use Rattle.kd_curator_command.proofs.grammar.flag.Goals as goal

abbrev long_rule : List ℕ → Rule → Rule
long_rule name rule = record rule { long = Some name }

abbrev flag_rule : Rule → Rule
flag_rule rule = record rule { action = Some SetTrue }

pub returns-clause-rule : goal.returns-clause-rule
returns-clause-rule c =
    ap rule_of c.help.ensures ∙ ap rule_of c.action.ensures
    ∙ ap flag_rule (ap rule_of c.long.ensures ∙ ap (long_rule c.args.name.now) c.new.ensures.rule)
