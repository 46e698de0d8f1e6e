use Rattle.kd_curator_command.proofs.Prelude.{codes, found_of, rows_of, rules}
use Rattle.kd_curator_command.proofs.CommandLines.{other_days_word, read_none, read_some}
use Rattle.kd_curator_command.proofs.command.days_asked.Goals as goal

pub returns-in_default-clause-said : goal.returns-in_default-clause-said
returns-in_default-clause-said c =
    read_none (found_of c.args.words.now) (codes "DAYS") c.get_str.result c.get_str.ensures c.in_default.is

pub returns-in-Some-days_of_word-clause-said : goal.returns-in-Some-days_of_word-clause-said
returns-in-Some-days_of_word-clause-said c =
    let found = found_of c.args.words.now in
    let word = read_some found (codes "DAYS") c.get_str.result c.in-Some.word c.get_str.ensures (search rules) in
    (_, word, c.in-Some-days_of_word.ensures)

pub returns-in-None-clause-none : goal.returns-in-None-clause-none
returns-in-None-clause-none c =
    let found = found_of c.args.words.now in
    let word = read_some found (codes "DAYS") c.get_str.result c.in-Some.word c.get_str.ensures (search rules) in
    λ err days has. other_days_word (rows_of found) c.in-Some.word.now word c.in-None.ensures days has
