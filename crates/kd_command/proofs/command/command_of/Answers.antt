use Rattle.kd_command.proofs.{Prelude.{arith, codes, found_of, rules}, CommandLines.{read_none, read_some}}
use Rattle.kd_command.proofs.command.command_of.Goals as goal

pub returns-in_err-machine-clause-none : goal.returns-in_err-machine-clause-none
returns-in_err-machine-clause-none c = grind (arith, read_none)

pub returns-clause-said : goal.returns-clause-said
returns-clause-said c =
    let found = found_of c.args.words.now in
    record {
      machine =
          read_some found (codes "MACHINE") c.get_str.result c.in_ok-machine.machine c.get_str.ensures (search rules);
      action = c.in_ok-action.ensures.said;
    }
