use Rattle.kd_curator_command.proofs.Prelude.{◌≡◌, ℕ, List, Some, Row, found_of, rows_of, subcommand_rows_of}
use Rattle.kd_curator_command.proofs.Prelude.{IsCommandOf, IsMeant, unborrowed_command}
use Rattle.kd_curator_command.proofs.CommandLines.{name_with_rows, some_also}
use Rattle.kd_curator_command.proofs.command.meant_command.Goals as goal

pub returns-clause-said : goal.returns-clause-said
returns-clause-said c =
    let said : List ℕ × List Row = (c.in_ok-name.name.now, rows_of (found_of c.in_ok-name.words.now)) in
    let entered : subcommand_rows_of c.args.matches.now ≡ Some said =
    name_with_rows _ _ _ said.0 said.1 c.in_ok-name.ensures.name c.in_ok-name.ensures.rows in
    some_also c.command_of.result (λ command. IsCommandOf said (unborrowed_command command))
    (λ command. IsMeant (subcommand_rows_of c.args.matches.now) (unborrowed_command command))
    (λ command says. rw entered says) c.command_of.ensures.said
