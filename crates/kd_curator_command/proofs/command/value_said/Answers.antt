use Rattle.kd_curator_command.proofs.Prelude.{◌≡◌, ◌∙◌, ℕ, List, Some, Row, ap, found_of, rows_of, subcommand_rows_of, sym}
use Rattle.kd_curator_command.specs.CommandLine.{value_said}
use Rattle.kd_curator_command.proofs.CommandLines.{name_with_rows, read_maybe}
use Rattle.kd_curator_command.proofs.command.value_said.Goals as goal

pub returns : goal.returns
returns c =
    let found = found_of c.in_ok-words.words.now in
    let said : List ℕ × List Row = (c.in_ok-words.field-0-0.now, rows_of found) in
    let entered : subcommand_rows_of c.args.matches.now ≡ Some said =
    name_with_rows _ _ _ said.0 said.1 c.in_ok-words.ensures.name c.in_ok-words.ensures.rows in
    sym (read_maybe found c.args.name.now c.get_str.result c.get_str.ensures)
    ∙ sym (ap (value_said c.args.name.now) entered)
