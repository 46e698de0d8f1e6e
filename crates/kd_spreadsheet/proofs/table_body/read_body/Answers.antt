use Rattle.std.proofs.Common.{map, take}
use Rattle.csv.specs.Records.{fields_of}
use Rattle.kd_spreadsheet.specs.Table.{NoRows}
use Rattle.kd_spreadsheet.proofs.ReadRows.{one_longer}
use Rattle.kd_spreadsheet.proofs.table_body.read_body.Goals as goal

pub loop-row-init : goal.loop-row-init
loop-row-init c = rw c.new-days.ensures.items NoRows

pub loop-row-preserved : goal.loop-row-preserved
loop-row-preserved c =
    let rows = c.args.rows.now in
    let index = c.loop-row.row-index in
    rw (one_longer rows index c.row-item.result c.loop-row-test.true c.row-item.is)
    (c.in_ok-refused.ensures (map fields_of (take index rows)) c.loop-row.invariant)
