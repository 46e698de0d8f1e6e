use Rattle.std.proofs.Common.{arith}
use Rattle.std.proofs.lemmas.Grind.{common_steps}
unfoldable use Rattle.kd_spreadsheet.specs.NearNames.{near_from}
use Rattle.kd_spreadsheet.proofs.EmptyMonths.{range_with_len-first}
use Rattle.kd_spreadsheet.proofs.near_names.+near_from.Goals as goal

pub returns-then-is_meant : goal.returns-then-is_meant
unfolding near_from
returns-then-is_meant t c =
    let split = range_with_len-first c.args.place c.args.count (omega arith) in
    rw split (grind (arith, common_steps))

pub returns : goal.returns
unfolding near_from
returns t c =
    let split = range_with_len-first c.args.place c.args.count (omega arith) in
    rw split (grind (arith, common_steps))
