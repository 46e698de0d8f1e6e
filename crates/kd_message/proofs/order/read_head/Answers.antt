use Rattle.std.proofs.Common.{arith, codes, inl, inr, refl}
use Rattle.std.proofs.lemmas.List.{take_all}
use Rattle.kd_message.proofs.Orders.{never_bad, never_cut, still_open, text_reached}
use Rattle.kd_message.proofs.order.read_head.Goals as goal

pub loop-index-init : goal.loop-index-init
loop-index-init c = rw (c.requires.keys, c.requires.line) (record {
  lines = refl;
  few = omega arith;
  begins = (codes "TEXT\n", (λ none. cc), inr (inl refl));
})

pub returns-in-Text : goal.returns-in-Text
returns-in-Text c =
    let step = rw c.in-Text.is at (c.take.ensures _ c.loop-index.invariant) in
    text_reached _ _ _ _ c.take.new.self.keys.items c.take.new.self.line.items _ c.loop-index-test.true c.split_at.ensures.back step

pub returns-in-Bad : goal.returns-in-Bad
returns-in-Bad c =
    let step = rw c.in-Bad.is at (c.take.ensures _ c.loop-index.invariant) in
    absurd (never_bad _ _ _ _ c.take.new.self.keys.items c.take.new.self.line.items c.requires.order c.loop-index-test.true step)

pub loop-index-preserved : goal.loop-index-preserved
loop-index-preserved c =
    let step = rw c.in-Open.is at (c.take.ensures _ c.loop-index.invariant) in
    still_open _ _ _ _ c.take.new.self.keys.items c.take.new.self.line.items c.loop-index-test.true step

pub returns : goal.returns
returns c =
    let all = take_all (c.loop-index.index) c.args.order.now (omega (arith, c.loop-index-test.false)) in
    absurd (never_cut _ _ _ _ c.requires.order (rw all at c.loop-index.invariant))
