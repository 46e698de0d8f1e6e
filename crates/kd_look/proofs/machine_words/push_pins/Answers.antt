use Rattle.std.proofs.Common.{append_assoc, arith}
use Rattle.kd_look.specs.MachineWords.{pin_words}
use Rattle.kd_findings.proofs.Ranges.{one_more}
use Rattle.kd_look.proofs.machine_words.push_pins.Goals as goal

pub loop-index-preserved : goal.loop-index-preserved
loop-index-preserved c =
    let more = one_more (pin_words c.args.machine.now c.args.wheel) 0 c.loop-index.index in
    grind (arith, more, append_assoc)
