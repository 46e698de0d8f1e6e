use Rattle.std.proofs.Common.{◌≡◌, ◌+◌, ◌∙◌, ◌++◌, ◌∷◌, [], refl, subst, sym, ap, arith, length, length-append}
use Rattle.std.proofs.lemmas.Grind.{common_steps}
use Rattle.kd_lost.specs.DamagedForm.{AreReadOf, IsReadOf, TooMany, completed_parts, damaged_parts_of}
use Rattle.kd_lost.specs.Repetitions.{completed_at}
use Rattle.kd_lost.proofs.Forms.{as_many_read, completed_length, left_on, less_left, read_more, too_many}
use Rattle.kd_lost.proofs.CompletedParts.{completed_more}
use Rattle.kd_lost.proofs.form.read_parts.Goals as goal

pub returns-then-len-eq-MOST_PARTS : goal.returns-then-len-eq-MOST_PARTS
returns-then-len-eq-MOST_PARTS c =
    let (few, done, are, left) = c.loop-left.invariant in
    let all = damaged_parts_of c.args.form.now in
    let line = c.loop-left.line in
    let size = length c.args.form.now + 1 in
    let is = rw c.in-Some.is at left in
    record {
      read = TooMany (too_many c.args.day.now c.args.copies.now all done c.loop-left.parts.items line c.in-Some.rest.now
          are is.0 (sym c.loop-left.parts.ok.0 ∙ sym c.len.ensures ∙ c.if-len-eq-MOST_PARTS.true)) refl;
      few = tt;
    }

pub loop-left-preserved : goal.loop-left-preserved
loop-left-preserved c =
    let (few, done, are, left) = c.loop-left.invariant in
    let all = damaged_parts_of c.args.form.now in
    let line = c.loop-left.line in
    let size = length c.args.form.now + 1 in
    let is = rw c.in-Some.is at left in
    let copies = c.args.copies.now in
    let part = c.split_part.result.0.now in
    let from_none : length done ≡ 0 + length done = omega arith in
    let at : c.len-in-Some.result ≡ 0 + length done =
    c.len-in-Some.ensures ∙ c.loop-left.parts.ok.0
    ∙ sym (as_many_read c.args.day.now (completed_parts copies 0 done) c.loop-left.parts.items are)
    ∙ completed_length copies 0 done ∙ from_none in
    let one = subst (λ n. IsReadOf c.args.day.now (completed_at copies n part) c.in-Ok.read × (c.in-Ok.read.line ≡ line)) at
    c.in-Ok.ensures in (
      omega (
        arith,
        few,
        sym c.loop-left.parts.ok.0 ∙ sym c.len.ensures,
        c.if-len-eq-MOST_PARTS.false,
        ap length c.in-Ok-push.ensures.items,
        length-append c.loop-left.parts.items (c.in-Ok.read ∷ []),
      ),
      done ++ record { bytes = part; line = line } ∷ [],
      subst (AreReadOf c.args.day.now (completed_parts copies 0 (done ++ record { bytes = part; line = line } ∷ [])))
          (sym c.in-Ok-push.ensures.items)
          (subst (λ l. AreReadOf c.args.day.now l (c.loop-left.parts.items ++ c.in-Ok.read ∷ []))
          (sym (completed_more copies 0 done (record { bytes = part; line = line })))
          (read_more c.args.day.now (completed_parts copies 0 done) c.loop-left.parts.items
          (record { bytes = completed_at copies (0 + length done) part; line = line }) c.in-Ok.read are one)),
      left_on (λ more. more.now) c.split_part.result.1 all done line c.line_breaks-line.result size c.in-Some.rest.now part
          is.0 is.1 c.split_part.ensures.part c.split_part.ensures.others c.split_part.ensures.joined
          c.line_breaks-line.ensures.breaks c.line_breaks-line.ensures.few,
    )

pub loop-left-smaller : goal.loop-left-smaller
loop-left-smaller c =
    less_left (λ r. r.now) c.loop-left.left c.split_part.result.1 c.in-Some.rest c.in-Some.is c.split_part.ensures.shorter

pub returns : goal.returns
returns c = grind (arith, common_steps)
