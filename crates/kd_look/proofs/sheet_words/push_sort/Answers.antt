use Rattle.std.proofs.Common.{append_assoc, arith}
use Rattle.kd_look.specs.SheetWords.{numbered_day_words}
use Rattle.kd_findings.proofs.Ranges.{one_more}
use Rattle.kd_look.proofs.sheet_words.push_sort.Goals as goal

pub loop-index-preserved : goal.loop-index-preserved
loop-index-preserved c =
    let words = numbered_day_words c.args.language c.args.sheet.now c.args.title.now c.args.sort in
    let more = one_more words 1 c.loop-index.index in grind (arith, more, append_assoc)
