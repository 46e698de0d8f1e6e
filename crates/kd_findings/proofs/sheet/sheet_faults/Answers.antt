use Rattle.std.proofs.Common.{arith}
use Rattle.kd_findings.proofs.FirstSheetFault.{one_more_entry}
use Rattle.kd_findings.proofs.sheet.sheet_faults.Goals as goal

pub loop-index-preserved : goal.loop-index-preserved
loop-index-preserved c =
    let more = one_more_entry c.args.items.now c.loop-index.index in
    grind (arith, more)
