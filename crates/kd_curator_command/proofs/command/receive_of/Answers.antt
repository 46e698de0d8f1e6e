use Rattle.kd_curator_command.proofs.Prelude.{ap, codes, found_of, refl, rows_of, rules, subst, sym}
use Rattle.kd_tables.specs.Direction.{direction_name}
use Rattle.kd_curator_command.specs.CommandLine.{HasMessage}
use Rattle.kd_curator_command.proofs.CommandLines.{missing, only_received, read_none, read_some}
use Rattle.kd_curator_command.proofs.command.receive_of.Goals as goal

pub returns-in_err-machine-clause-none : goal.returns-in_err-machine-clause-none
returns-in_err-machine-clause-none c =
    let found = found_of c.args.words.now in
    let none = read_none found (codes "MACHINE") c.get_str.result c.get_str.ensures c.in_err-machine.was in
    λ _ command of. let is = only_received (rows_of found) command of in
    missing (rows_of found) (codes "MACHINE") is.0 none is.4.machine

pub returns-in_err-sheet-clause-none : goal.returns-in_err-sheet-clause-none
returns-in_err-sheet-clause-none c =
    let found = found_of c.args.words.now in
    let none = read_none found (codes "SHEET") c.get_str-2.result c.get_str-2.ensures c.in_err-sheet.was in
    λ _ command of. let is = only_received (rows_of found) command of in
    missing (rows_of found) (codes "SHEET") is.1 none is.4.sheet

pub returns-in_err-message-clause-none : goal.returns-in_err-message-clause-none
returns-in_err-message-clause-none c =
    let found = found_of c.args.words.now in
    let none = read_none found (codes "FORM") c.get_str-3.result c.get_str-3.ensures c.in_err-message.was in
    λ _ command of. let is = only_received (rows_of found) command of in
    missing (rows_of found) (codes "FORM") is.2 none (subst (λ d. HasMessage (rows_of found) d is.2) is.5 is.4.message)

pub returns-in_err-task-clause-none : goal.returns-in_err-task-clause-none
returns-in_err-task-clause-none c =
    let found = found_of c.args.words.now in
    λ _ command of. let is = only_received (rows_of found) command of in
    c.in_err-task.ensures.none refl is.3 (record {
      same = is.5;
      day = is.4.day;
      results = is.4.results;
    })

pub returns-clause-said : goal.returns-clause-said
returns-clause-said c =
    let found = found_of c.args.words.now in
    let task = c.in_ok-task.ensures.said in
    let message =
    read_some found (codes "FORM") c.get_str-3.result c.in_ok-message.message c.get_str-3.ensures (search rules) in
    record {
      name = sym (ap direction_name task.same);
      machine =
          read_some found (codes "MACHINE") c.get_str.result c.in_ok-machine.machine c.get_str.ensures (search rules);
      sheet = read_some found (codes "SHEET") c.get_str-2.result c.in_ok-sheet.sheet c.get_str-2.ensures (search rules);
      message = subst (λ d. HasMessage (rows_of found) d c.in_ok-message.message.now) (sym task.same) message;
      day = task.day;
      results = task.results;
    }
