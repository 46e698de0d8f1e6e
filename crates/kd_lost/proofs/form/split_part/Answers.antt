use Rattle.std.proofs.Common.{◌∙◌, ap, sym}
use Rattle.kd_lost.specs.DamagedForm.{ends_part, parts_cut}
use Rattle.kd_lost.proofs.Forms.{cut_begun, cut_further, cut_nowhere, cut_there}
use Rattle.kd_lost.proofs.form.split_part.Goals as goal

pub loop-index-init : goal.loop-index-init
loop-index-init c = cut_begun c.args.form.now

pub loop-index-preserved : goal.loop-index-preserved
loop-index-preserved c =
    cut_further c.args.form.now c.loop-index.index c.loop-index-test.true
    (sym (c.ends_part.ensures ∙ ap (ends_part _) c.split_at.ensures.back) ∙ c.if-ends_part.false)
    c.loop-index.invariant

pub returns-then-ends_part-clause-part : goal.returns-then-ends_part-clause-part
returns-then-ends_part-clause-part c =
    let there =
    cut_there c.args.form.now c.loop-index.index c.loop-index-test.true
    (sym (c.ends_part.ensures ∙ ap (ends_part _) c.split_at.ensures.back) ∙ c.if-ends_part.true)
    c.loop-index.invariant in
    c.split_at-then-ends_part.ensures.front ∙ sym there.0

pub returns-then-ends_part-clause-others : goal.returns-then-ends_part-clause-others
returns-then-ends_part-clause-others c =
    let there =
    cut_there c.args.form.now c.loop-index.index c.loop-index-test.true
    (sym (c.ends_part.ensures ∙ ap (ends_part _) c.split_at.ensures.back) ∙ c.if-ends_part.true)
    c.loop-index.invariant in
    there.1 ∙ sym (ap parts_cut c.split_at.ensures.back)

pub returns-clause-part : goal.returns-clause-part
returns-clause-part c =
    sym (cut_nowhere c.args.form.now c.loop-index.index c.loop-index-test.false c.loop-index.invariant).0

pub returns-clause-others : goal.returns-clause-others
returns-clause-others c =
    (cut_nowhere c.args.form.now c.loop-index.index c.loop-index-test.false c.loop-index.invariant).1
