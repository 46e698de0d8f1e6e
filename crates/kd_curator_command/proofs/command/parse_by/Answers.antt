use Rattle.kd_curator_command.proofs.Prelude.{◌∙◌, codes, map, Ok, Err, ap, app_of, refl, subcommand_rows_of, unborrowed_command}
use Rattle.kd_curator_command.specs.CommandLine.{value_said}
use Rattle.kd_curator_command.proofs.CommandLines.{language_is_asked, no_command_said, other_days, parse_enters, parse_fails_by}
use Rattle.kd_curator_command.proofs.CommandLines.{refused_words, said_command}
use Rattle.clap.specs.declared.error.kind.ErrorKind.TheVariants.{InvalidValue}
use Rattle.kd_curator_command.proofs.command.parse_by.Goals as goal

pub returns-in-Err-clause-none : goal.returns-in-Err-clause-none
returns-in-Err-clause-none g c =
    let words = map g.S.AsStr.text c.args.words.now in
    refused_words words c.in-Err.error c.no_command.result
    (parse_fails_by (app_of c.args.grammar.now) words (Err c.in-Err.error) c.requires
    c.in-Err.ensures.kinds) c.no_command.ensures

pub returns-in-Some-clause-said : goal.returns-in-Some-clause-said
returns-in-Some-clause-said g c =
    let words = map g.S.AsStr.text c.args.words.now in
    let taken = parse_fails_by (app_of c.args.grammar.now) words (Ok c.in-Ok.matches) c.requires
    c.in-Ok.ensures.kinds in
    let entered = parse_enters (app_of c.args.grammar.now) words c.in-Ok.matches c.requires
    c.in-Ok.ensures.ok.2 in
    said_command words (subcommand_rows_of c.in-Ok.matches) taken entered
    (unborrowed_command c.in-Some.line.command) c.in-Some.ensures.said c.in-Some.line.language
    c.in-Some.ensures.language

pub returns-in-Some-clause-language : goal.returns-in-Some-clause-language
returns-in-Some-clause-language g c =
    let words = map g.S.AsStr.text c.args.words.now in
    language_is_asked words (subcommand_rows_of c.in-Ok.matches) c.in-Some.line.language
    (parse_enters (app_of c.args.grammar.now) words c.in-Ok.matches c.requires c.in-Ok.ensures.ok.2)
    c.in-Some.ensures.language

pub returns-in-Some-clause-output : goal.returns-in-Some-clause-output
returns-in-Some-clause-output g c =
    let words = map g.S.AsStr.text c.args.words.now in
    c.in-Some.ensures.output ∙ ap (value_said (codes "output"))
    (parse_enters (app_of c.args.grammar.now) words c.in-Ok.matches c.requires c.in-Ok.ensures.ok.2)

pub returns-clause-none : goal.returns-clause-none
returns-clause-none g c =
    let words = map g.S.AsStr.text c.args.words.now in
    let taken = parse_fails_by (app_of c.args.grammar.now) words (Ok c.in-Ok.matches) c.requires
    c.in-Ok.ensures.kinds in
    let entered = parse_enters (app_of c.args.grammar.now) words c.in-Ok.matches c.requires
    c.in-Ok.ensures.ok.2 in
    other_days words InvalidValue c.no_days.result taken
    (no_command_said words (subcommand_rows_of c.in-Ok.matches) entered (c.in-None.ensures.none refl)) refl
    c.no_days.ensures
