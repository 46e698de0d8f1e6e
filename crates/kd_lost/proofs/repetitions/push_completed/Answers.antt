use Rattle.std.proofs.Common.{◌∙◌, ◌++◌, ◌∷◌, [], ap, arith}
use Rattle.std.proofs.lemmas.Grind.{common_steps}
use Rattle.kd_lost.proofs.CompletedParts.{completed_step, place_after}
use Rattle.kd_lost.proofs.repetitions.push_completed.Goals as goal

pub loop-byte-preserved : goal.loop-byte-preserved
loop-byte-preserved c =
    let pushed =
    c.in-Ok.ensures.items ∙ ap (λ y. c.loop-byte.bytes.items ++ y ∷ []) c.completed_byte-completed.ensures in
    let step = completed_step c.args.copies.now c.args.read.now c.args.shown.now c.loop-byte.bytes.items
    c.loop-byte.place c.loop-byte.byte-index 0 c.args.body.now (grind arith) in (
      rw c.letters_after-place.ensures (place_after _ _ _ c.loop-byte.invariant.0),
      rw (pushed, c.letters_after-place.ensures) (c.loop-byte.invariant.1 ∙ step),
    )

pub returns : goal.returns
returns c = grind (arith, common_steps)
