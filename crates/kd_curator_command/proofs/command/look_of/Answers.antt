use Rattle.kd_curator_command.proofs.Prelude.{[], ◌∷◌, ◌++◌, ◌∙◌, ap, codes, found_of, rows_of, rules}
use Rattle.kd_curator_command.specs.CommandLine.{unborrowed_names}
use Rattle.kd_curator_command.proofs.CommandLines.{files_read, only_look, read_none, read_some}
use Rattle.kd_curator_command.proofs.command.look_of.Goals as goal

pub returns-in_err-get_str-clause-none : goal.returns-in_err-get_str-clause-none
returns-in_err-get_str-clause-none c =
    let found = found_of c.args.words.now in
    let none = read_none found (codes "FILE") c.get_str.result c.get_str.ensures c.in_err-get_str.was in
    λ _ command of. let is = only_look _ command of in let wrong = rw none at is.1.first in cc

pub returns-clause-said : goal.returns-clause-said
returns-clause-said c =
    let found = found_of c.args.words.now in
    let first = c.in_ok-get_str.field-0 in
    files_read (rows_of found) first.now _ _ _
    (read_some found (codes "FILE") c.get_str.result first c.get_str.ensures (search rules))
    (ap unborrowed_names (c.push.ensures.items ∙ ap (λ l. l ++ first ∷ []) c.new-files.ensures))
    c.push_file.ensures.items c.push_file-2.ensures.items
