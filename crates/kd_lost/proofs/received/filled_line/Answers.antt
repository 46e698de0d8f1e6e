use Rattle.std.proofs.Common.{◌∙◌, arith}
use Rattle.std.proofs.lemmas.Grind.{common_steps}
use Rattle.kd_lost.proofs.Bytes.{filled_more}
use Rattle.kd_lost.proofs.received.filled_line.Goals as goal

pub loop-byte-preserved : goal.loop-byte-preserved
loop-byte-preserved c =
    rw c.filled_byte.ensures at c.push_if_room.ensures
    ∙ filled_more c.args.line.now c.loop-byte.byte-index 0 c.loop-byte.kept.items c.loop-byte-test.true
    c.loop-byte.invariant

pub returns : goal.returns
returns c = grind (arith, common_steps)
