use Rattle.kd_curator_command.proofs.Prelude.{[], ◌∷◌, ◌++◌, ◌∙◌, ap, found_of, rules, sym}
use Rattle.std.specs.Prelude.{option_to_list}
use Rattle.std.proofs.lemmas.List.{append-nil, map-append}
use Rattle.kd_curator_command.specs.CommandLine.{unborrowed_names}
use Rattle.kd_curator_command.proofs.CommandLines.{read_none, read_some}
use Rattle.kd_curator_command.proofs.command.push_file.Goals as goal

pub returns-in-Some-clause-items : goal.returns-in-Some-clause-items
returns-in-Some-clause-items c =
    let found = found_of c.args.words.now in
    let old = c.args.files.now.items in
    let file = c.in-Some.file in
    let given = read_some found c.args.name.now c.get_str.result file c.get_str.ensures (search rules) in
    ap unborrowed_names c.push.ensures.items ∙ map-append _ old (file ∷ [])
    ∙ ap (λ word. unborrowed_names old ++ option_to_list word) (sym given)

pub returns-in_default-clause-items : goal.returns-in_default-clause-items
returns-in_default-clause-items c =
    let found = found_of c.args.words.now in
    let old = unborrowed_names c.args.files.now.items in
    let none = read_none found c.args.name.now c.get_str.result c.get_str.ensures (search rules) in
    sym (append-nil old) ∙ ap (λ word. old ++ option_to_list word) (sym none)
