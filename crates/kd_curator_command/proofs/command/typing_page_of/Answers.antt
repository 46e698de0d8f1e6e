use Rattle.kd_curator_command.proofs.Prelude.{codes, found_of, refl, rows_of, rules}
use Rattle.kd_curator_command.proofs.CommandLines.{missing, only_typing_page, read_none, read_some}
use Rattle.kd_curator_command.proofs.command.typing_page_of.Goals as goal

pub returns-in_err-machine-clause-none : goal.returns-in_err-machine-clause-none
returns-in_err-machine-clause-none c =
    let found = found_of c.args.words.now in
    let none = read_none found (codes "MACHINE") c.get_str.result c.get_str.ensures c.in_err-machine.was in
    λ _ command of. let is = only_typing_page _ command of in
    missing (rows_of found) (codes "MACHINE") is.0 none is.1.machine

pub returns-clause-said : goal.returns-clause-said
returns-clause-said c =
    let found = found_of c.args.words.now in
    record {
      name = refl;
      machine =
          read_some found (codes "MACHINE") c.get_str.result c.in_ok-machine.machine c.get_str.ensures (search rules);
    }
