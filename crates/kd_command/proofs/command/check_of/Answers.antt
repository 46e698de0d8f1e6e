use Rattle.kd_command.proofs.{Prelude.{arith, codes, found_of, refl, rules}, CommandLines.{read_none, read_some}}
use Rattle.kd_command.proofs.command.check_of.Goals as goal

pub returns-in_err-sheet-clause-none : goal.returns-in_err-sheet-clause-none
returns-in_err-sheet-clause-none c = grind (arith, c.in_err-sheet.ensures.none)

pub returns-in_err-card-clause-none : goal.returns-in_err-card-clause-none
returns-in_err-card-clause-none c = grind (arith, read_none)

pub returns-clause-said : goal.returns-clause-said
returns-clause-said c =
    let found = found_of c.args.words.now in
    record {
      name = refl;
      words = (
        c.in_ok-sheet.ensures.said,
        read_some found (codes "CARD") c.get_str.result c.in_ok-card.card c.get_str.ensures (search rules),
      );
    }
