use Rattle.std.proofs.Common.{arith, map}
use Rattle.std.proofs.lemmas.Grind.{common_steps}
use Rattle.std.proofs.lemmas.Result.{IfOk-weaker}
use Rattle.csv.specs.Records.{fields_of}
use Rattle.kd_spreadsheet.proofs.Noting.{of_faults}
use Rattle.kd_spreadsheet.proofs.notes.push_faults.Goals as goal

pub returns : goal.returns
returns c =
    let head = c.args.head.now in
    let rows = rw c.requires.columns at c.in_ok-push_rows.ensures in
    let named = rw c.requires.columns at c.in_ok-push_head.ensures in
    IfOk-weaker c.push_due_words.result _ _ (λ done last. of_faults head.language head.options c.args.table.now head.names
    (map fields_of c.args.rows.now) _ _ _ _ _ c.requires.quoted c.requires.are named rows last
    (λ same. grind (arith, common_steps, same)))
    c.push_due_words.ensures
