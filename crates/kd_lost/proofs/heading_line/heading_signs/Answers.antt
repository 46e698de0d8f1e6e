use Rattle.std.proofs.Common.{◌∙◌, ap, arith, map, take}
use Rattle.std.proofs.lemmas.Grind.{common_steps}
use Rattle.std.proofs.lemmas.List.{take_all, take_min}
use Rattle.kd_lost.specs.HeadingLine.{heading_sign}
use Rattle.kd_lost.proofs.heading_line.heading_signs.Goals as goal

pub returns : goal.returns
returns c =
    let line = c.args.line.now in
    c.loop-byte.invariant.0
    ∙ ap (map heading_sign)
    (take_all c.loop-byte.byte-index c.split_at.result.0.now c.loop-byte-test.false ∙ c.split_at.ensures.front
    ∙ ap (λ n. take n line) c.min.ensures ∙ take_min 64 line)

pub push-requires : goal.push-requires
push-requires c = grind (arith, common_steps)

pub loop-byte-preserved : goal.loop-byte-preserved
loop-byte-preserved c = grind (arith, common_steps)
