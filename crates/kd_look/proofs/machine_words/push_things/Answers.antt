use Rattle.std.proofs.Common.{append_assoc, arith}
use Rattle.kd_look.specs.MachineWords.{thing_words}
use Rattle.kd_findings.proofs.Ranges.{one_more}
use Rattle.kd_look.proofs.machine_words.push_things.Goals as goal

pub loop-index-preserved : goal.loop-index-preserved
loop-index-preserved c =
    let more = one_more (thing_words c.args.language c.args.machine.now c.args.thing) 1 c.loop-index.index in
    grind (arith, more, append_assoc)
