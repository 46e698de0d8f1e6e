use Rattle.std.proofs.Common.{append_assoc, arith}
use Rattle.kd_look.specs.Groups.{next_group}
use Rattle.kd_findings.proofs.Ranges.{one_more}
use Rattle.kd_look.proofs.message.groups.rotor_form_groups.Goals as goal

pub loop-index-preserved : goal.loop-index-preserved
loop-index-preserved c =
    let more = one_more (next_group c.args.text.now) 0 c.loop-index.index in grind (arith, more, append_assoc)
