use Rattle.kd_curator_command.proofs.Prelude.{◌≡◌, ◌∙◌, Some, ap, codes, option_map, rules, subcommand_rows_of, sym}
use Rattle.kd_curator_command.specs.CommandLine.{value_said}
use Rattle.kd_curator_command.proofs.CommandLines.{code_of_found, no_code_of, other_language}
use Rattle.kd_curator_command.proofs.command.language_said.Goals as goal

pub returns-in_default-clause-said : goal.returns-in_default-clause-said
returns-in_default-clause-said c =
    sym c.value_said.ensures ∙ ap (option_map (λ code. code.now)) c.in_default.is

pub returns-in-Some-language_of_code-clause-said : goal.returns-in-Some-language_of_code-clause-said
returns-in-Some-language_of_code-clause-said c =
    let given : c.value_said.result ≡ Some c.in-Some.code = search rules in
    sym c.value_said.ensures ∙ ap (option_map (λ code. code.now)) given
    ∙ ap Some (sym (code_of_found c.in-Some.code.now _ c.in-Some-language_of_code.ensures))

pub returns-in-None-clause-none : goal.returns-in-None-clause-none
returns-in-None-clause-none c =
    let given : c.value_said.result ≡ Some c.in-Some.code = search rules in
    let code : value_said (codes "in") (subcommand_rows_of c.args.matches.now) ≡ Some c.in-Some.code.now =
    sym c.value_said.ensures ∙ ap (option_map (λ code. code.now)) given in
    λ err language has. other_language (subcommand_rows_of c.args.matches.now) c.in-Some.code.now code
    (no_code_of c.in-Some.code.now c.in-None.ensures) language has
