use Rattle.std.proofs.Common.{◌≡◌, ◌∷◌, [], true, rules}
use Rattle.std.proofs.lemmas.List.{map-append}
use Rattle.std.specs.Result.{is_ok}
use Rattle.csv.specs.Records.{fields_of}
use Rattle.kd_spreadsheet.proofs.ReadRows.{reads_end, reads_next}
use Rattle.kd_spreadsheet.proofs.records.read_records.Goals as goal

pub loop-row-preserved : goal.loop-row-preserved
loop-row-preserved c =
    let is = c.loop-row.invariant in
    let step = rw (c.in-Some.is, c.in-Ok.is) at ((c.next.ensures.steps is.left is.untrimmed).0 is.ready) in
    let good : is_ok c.push.result ≡ true = search rules in
    let items = rw good at c.push.ensures.items in
    rw (items, map-append fields_of c.loop-row.rows.items (c.in-Ok.row ∷ []))
    (reads_next c.args.table.now _ c.loop-row.row-iterator c.next.new.self c.in-Ok.row is step.0 step.1 step.2)

pub returns : goal.returns
returns c =
    let is = c.loop-row.invariant in
    let read = rw c.in-None.is at ((c.next.ensures.steps is.left is.untrimmed).0 is.ready) in
    reads_end c.args.table.now _ c.loop-row.row-iterator c.next.new.self is read
