use Rattle.kd_curator_command.proofs.Prelude.{arith, codes, found_of, refl, rules}
use Rattle.kd_curator_command.proofs.CommandLines.{no_task_with, read_none, read_some}
use Rattle.kd_curator_command.proofs.command.task_with_files.Goals as goal

pub returns-in_err-machine-clause-none : goal.returns-in_err-machine-clause-none
returns-in_err-machine-clause-none c = λ _. no_task_with _ c.requires.table c.requires.sheet c.requires.look c.requires.send c.requires.receive c.requires.typing (λ m s t of. grind (arith, read_none, of.machine))

pub returns-in_err-sheet-clause-none : goal.returns-in_err-sheet-clause-none
returns-in_err-sheet-clause-none c = λ _. no_task_with _ c.requires.table c.requires.sheet c.requires.look c.requires.send c.requires.receive c.requires.typing (λ m s t of. grind (arith, read_none, of.sheet))

pub returns-in_err-task-clause-none : goal.returns-in_err-task-clause-none
returns-in_err-task-clause-none c =
    λ _. no_task_with _ c.requires.table c.requires.sheet c.requires.look c.requires.send c.requires.receive c.requires.typing (λ m s t of. c.in_err-task.ensures.none refl t of.task)

pub returns-clause-said : goal.returns-clause-said
returns-clause-said c =
    let found = found_of c.args.words.now in
    record {
      machine =
          read_some found (codes "MACHINE") c.get_str.result c.in_ok-machine.machine c.get_str.ensures (search rules);
      sheet = read_some found (codes "SHEET") c.get_str-2.result c.in_ok-sheet.sheet c.get_str-2.ensures (search rules);
      task = c.in_ok-task.ensures.said;
    }
