use Rattle.std.proofs.Common.{◌∙◌, arith}
use Rattle.std.proofs.lemmas.Grind.{common_steps}
use Rattle.kd_lost.proofs.Bytes.{body_more, kept_already}
use Rattle.kd_lost.proofs.received.body_letters.Goals as goal

pub loop-byte-preserved : goal.loop-byte-preserved
loop-byte-preserved c =
    rw c.body_letter.ensures
    at (c.keep_letter.ensures (kept_already 525 c.loop-byte.letters.items _ c.loop-byte.invariant))
    ∙ body_more c.args.body.now c.loop-byte.byte-index 0 c.loop-byte.letters.items c.loop-byte-test.true
    c.loop-byte.invariant

pub returns : goal.returns
returns c = grind (arith, common_steps)
