use Rattle.std.proofs.Common.{append_assoc, arith}
use Rattle.kd_findings.proofs.Ranges.{one_more}
use Rattle.kd_look.specs.Warnings.{counts_on}
use Rattle.kd_look.proofs.few_days.counts_in.Goals as goal

pub loop-index-preserved : goal.loop-index-preserved
loop-index-preserved c =
    let more = one_more (counts_on c.args.sheet.now) 1 c.loop-index.index in grind (arith, more, append_assoc)
