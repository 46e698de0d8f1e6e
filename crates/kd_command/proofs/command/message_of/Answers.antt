use Rattle.kd_command.proofs.Prelude.{arith, ap, first_of, found_of, refl, rows_of, rules, sym, ◌∙◌}
use Rattle.kd_command.proofs.CommandLines.{read_none, read_some}
use Rattle.kd_command.proofs.command.message_of.Goals as goal

pub returns-in_err-sheet-clause-none : goal.returns-in_err-sheet-clause-none
returns-in_err-sheet-clause-none c = grind (arith, c.in_err-sheet.ensures.none)

pub returns-in_err-file-clause-none : goal.returns-in_err-file-clause-none
returns-in_err-file-clause-none c = grind (arith, read_none)

pub returns-clause-said : goal.returns-clause-said
returns-clause-said c =
    let found = found_of c.args.words.now in
    let file =
    ap (λ word. first_of word (rows_of found)) (sym c.file_word.ensures)
    ∙ read_some found c.file_word.result.now c.get_str.result c.in_ok-file.file c.get_str.ensures (search rules) in
    record { name = refl; words = (c.in_ok-sheet.ensures.said, file) }
