use Rattle.kd_form.proofs.OrderSteps.{HasReadSoFar-order, [], refl, inl, inr, arith, codes}
use Rattle.kd_form.proofs.sending.order_reader.OrderReaderMessageReader.start.Goals as goal

pub returns : goal.returns
returns c = HasReadSoFar-order {s = c.args._day.now} {order = []} {sent = []} (record {
  counted = refl;
  stage = (
    rw (c.new.ensures.keys, c.new.ensures.line)
        (record { lines = refl; few = omega arith; begins = (codes "TEXT\n", (λ none. cc), inr (inl refl)) }),
    refl,
    c.new-2.ensures,
  );
})
