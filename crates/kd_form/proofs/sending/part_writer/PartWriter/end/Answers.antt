use Rattle.kd_form.proofs.OrderSteps.{last_written, GoesOn, HasFault, refl, sym, ap, ◌∙◌, arith, length}
use Rattle.kd_form.proofs.sending.part_writer.PartWriter.end.Goals as goal

pub returns : goal.returns
returns c letters sent is =
    let (k, found, made) = c.write_part.ensures.made in
    let needed = rw (c.part_size.ensures.value) at c.div_ceil-needed.ensures in
    last_written is found made c.if-self-eq0.false (sym needed ∙ c.if-needed-given.false)

pub returns-then-self-eq0 : goal.returns-then-self-eq0
returns-then-self-eq0 c letters sent is =
    (HasFault _ ((λ _ some. some (grind (arith, c.if-self-eq0.true, is.counted))), refl) refl, c.requires.empty)

pub returns-then-needed-given : goal.returns-then-needed-given
returns-then-needed-given c letters sent is =
    let needed = rw (is.counted, c.part_size.ensures.value) at c.div_ceil-needed.ensures in
    rw needed (
      GoesOn tt (λ none. c.if-self-eq0.false (is.counted ∙ ap length none))
          (HasFault _ ((λ _ same. c.if-needed-given.true (needed ∙ same)), refl) refl),
      c.requires.empty,
    )
