use Rattle.kd_command.proofs.Prelude.{arith, map, ℕ, List, Err, sym, ◌∙◌, Row, app_of, found_of, rows_of}
use Rattle.kd_command.proofs.Prelude.{unborrowed_command, IsCommandOf, IsCommandLineOf}
use Rattle.kd_command.proofs.CommandLines.{parse_fails_by, parse_takes, parse_enters, no_fault_said, no_subcommand_said}
use Rattle.kd_command.proofs.CommandLines.{said_subcommand, name_with_rows, ok_said}
use Rattle.kd_command.proofs.command.parse_words.Goals as goal

pub returns-in-Err-clause-usage : goal.returns-in-Err-clause-usage
returns-in-Err-clause-usage g c =
    let words = map g.S.AsStr.text c.args.words.now in
    λ usage. no_fault_said words c.in-Err.error
    (parse_fails_by (app_of c.in_ok-grammar.field-0) words
    (Err c.in-Err.error) c.in_ok-grammar.ensures c.in-Err.ensures.kinds)
    (λ memory. cc (c.no_command.ensures.memory memory))

pub returns-in_default-clause-usage : goal.returns-in_default-clause-usage
returns-in_default-clause-usage g c =
    let words = map g.S.AsStr.text c.args.words.now in
    λ _. no_subcommand_said words (sym (parse_enters
    (app_of c.in_ok-grammar.field-0) words c.in-Ok.matches c.in_ok-grammar.ensures c.in-Ok.ensures.matches)
    ∙ grind arith)

pub returns-clause-said : goal.returns-clause-said
returns-clause-said g c =
    let words = map g.S.AsStr.text c.args.words.now in
    let said : List ℕ × List Row = (c.in-Some.name.now, rows_of (found_of c.in-Some.words.now)) in
    let taken =
    parse_takes (app_of c.in_ok-grammar.field-0)
    words c.in-Ok.matches c.in_ok-grammar.ensures c.in-Ok.ensures.kinds in
    let entered =
    sym (parse_enters (app_of c.in_ok-grammar.field-0)
    words c.in-Ok.matches c.in_ok-grammar.ensures c.in-Ok.ensures.matches)
    ∙ name_with_rows _ _ _ said.0 said.1 c.in-Some.ensures.name c.in-Some.ensures.rows in
    ok_said c.command_of.result c.ok_or.result (λ command. IsCommandOf said (unborrowed_command command))
    (λ command. IsCommandLineOf words (unborrowed_command command)) c.ok_or.ensures.value
    (λ command. said_subcommand words said taken entered (unborrowed_command command)) c.command_of.ensures.said

pub returns-clause-usage : goal.returns-clause-usage
returns-clause-usage g c =
    let words = map g.S.AsStr.text c.args.words.now in
    let said : List ℕ × List Row = (c.in-Some.name.now, rows_of (found_of c.in-Some.words.now)) in
    let entered =
    sym (parse_enters (app_of c.in_ok-grammar.field-0)
    words c.in-Ok.matches c.in_ok-grammar.ensures c.in-Ok.ensures.matches)
    ∙ name_with_rows _ _ _ said.0 said.1 c.in-Some.ensures.name c.in-Some.ensures.rows in
    λ usage command says. c.command_of.ensures.none (grind arith) command (rw entered at says.said)
