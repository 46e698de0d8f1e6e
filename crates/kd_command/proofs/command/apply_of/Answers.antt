use Rattle.kd_command.proofs.{Prelude.{arith, codes, found_of, refl, rules}, CommandLines.{read_none, read_some}}
use Rattle.kd_command.proofs.command.apply_of.Goals as goal

pub returns-in_err-list-clause-none : goal.returns-in_err-list-clause-none
returns-in_err-list-clause-none c = grind (arith, read_none)

pub returns-clause-said : goal.returns-clause-said
returns-clause-said c =
    let found = found_of c.args.words.now in
    record {
      name = refl;
      words = read_some found (codes "LIST") c.get_str.result c.in_ok-list.list c.get_str.ensures
          (search rules);
    }
