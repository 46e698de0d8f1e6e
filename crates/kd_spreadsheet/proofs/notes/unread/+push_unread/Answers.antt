use Rattle.std.proofs.Common.{arith}
use Rattle.std.proofs.lemmas.Result.{IfOk-weaker}
unfoldable use Rattle.kd_spreadsheet.specs.Notes.{unread_from}
use Rattle.kd_spreadsheet.proofs.EmptyMonths.{range_with_len-first}
use Rattle.kd_spreadsheet.proofs.Noting.{two_parts}
use Rattle.kd_spreadsheet.proofs.notes.unread.+push_unread.Goals as goal

pub returns : goal.returns
unfolding unread_from
returns t c =
    let split = range_with_len-first c.args.place c.args.count (omega arith) in
    rw split (IfOk-weaker c.push_unread.result _ _ (λ done rest.
    two_parts _ _ _ _ _ c.in_ok-push_unread_line.ensures rest) c.push_unread.ensures)
