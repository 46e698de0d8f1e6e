-- The numbers of the parts' sheets in a file of several orders.
use Rattle.std.proofs.Common.{◌≡◌, arith}
use Rattle.kd_message.specs.Laws.{SheetsHaveTheirOwnNumbers}

pub own_sheet_numbers : SheetsHaveTheirOwnNumbers
own_sheet_numbers order other part later some few later_some later_few same =
    let one : order ≡ other = omega (arith, some, few, later_some, later_few, same) in (one, omega (arith, one, same))
