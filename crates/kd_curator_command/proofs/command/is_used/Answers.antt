use Rattle.kd_curator_command.proofs.Prelude.{◌≡◌, ◌∙◌, Some, None, ap, codes, found_of, rules, same_Some, sym}
use Rattle.kd_curator_command.proofs.CommandLines.{read_none, read_some}
use Rattle.kd_curator_command.proofs.command.is_used.Goals as goal

pub returns-in-Some-clause-used : goal.returns-in-Some-clause-used
returns-in-Some-clause-used c = λ is.
    let found = found_of c.args.words.now in
    read_some found c.args.name.now c.get_str.result c.in-Some.word c.get_str.ensures (search rules)
    ∙ ap Some (c.is_true.ensures.yes is)

pub returns-in-Some-clause-unused : goal.returns-in-Some-clause-unused
returns-in-Some-clause-unused c = λ no used.
    let found = found_of c.args.words.now in
    c.is_true.ensures.no no (same_Some _ _ (sym (read_some found c.args.name.now c.get_str.result c.in-Some.word
    c.get_str.ensures (search rules)) ∙ used))

pub returns-in-None-clause-unused : goal.returns-in-None-clause-unused
returns-in-None-clause-unused c = λ no used.
    let found = found_of c.args.words.now in
    let wrong : None ≡ Some (codes "true") =
    sym (read_none found c.args.name.now c.get_str.result c.get_str.ensures (search rules)) ∙ used in cc
