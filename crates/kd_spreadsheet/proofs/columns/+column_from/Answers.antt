use Rattle.std.proofs.Common.{arith}
use Rattle.std.proofs.lemmas.Grind.{common_steps}
unfoldable use Rattle.kd_spreadsheet.specs.Columns.{column_from}
use Rattle.kd_spreadsheet.proofs.EmptyMonths.{range_with_len-first}
use Rattle.kd_spreadsheet.proofs.columns.+column_from.Goals as goal

pub returns-then-names_column : goal.returns-then-names_column
unfolding column_from
returns-then-names_column t c =
    let split = range_with_len-first c.args.place c.args.count (omega arith) in
    rw split (grind (arith, common_steps))

pub returns : goal.returns
unfolding column_from
returns t c =
    let split = range_with_len-first c.args.place c.args.count (omega arith) in
    rw split (grind (arith, common_steps))
