use Rattle.kd_curator_command.proofs.Prelude.{codes, found_of, refl, rows_of, rules}
use Rattle.kd_curator_command.proofs.CommandLines.{missing, only_table, read_none, read_some}
use Rattle.kd_curator_command.proofs.command.table_of.Goals as goal

pub returns-in_err-sheet-clause-none : goal.returns-in_err-sheet-clause-none
returns-in_err-sheet-clause-none c =
    let found = found_of c.args.words.now in
    let none = read_none found (codes "SHEET") c.get_str.result c.get_str.ensures c.in_err-sheet.was in
    λ _ command of. let is = only_table _ command of in missing (rows_of found) (codes "SHEET") is.0 none is.2.sheet

pub returns-clause-said : goal.returns-clause-said
returns-clause-said c =
    let found = found_of c.args.words.now in
    record {
      name = refl;
      sheet = read_some found (codes "SHEET") c.get_str.result c.in_ok-sheet.sheet c.get_str.ensures (search rules);
      form = c.form_of-form.ensures;
    }
