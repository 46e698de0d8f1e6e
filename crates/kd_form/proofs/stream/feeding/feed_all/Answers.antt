use Rattle.kd_form.proofs.Prelude.{common_steps}
use Rattle.kd_form.proofs.Streaming.{err_is, Appends-nil, append-nil, ℕ, take_all, refl, fed_next, fed_whole, fed_up_to}
use Rattle.kd_form.proofs.Streaming.{length-append, well_now, sym, ◌∙◌, arith, take_more, up_to}
use Rattle.kd_form.proofs.stream.feeding.feed_all.Goals as goal

pub returns-in_err-feed_one-clause-fed : goal.returns-in_err-feed_one-clause-fed
returns-in_err-feed_one-clause-fed g c =
    rw (err_is _ _ c.from_residual.ensures.1)
    (fed_whole (up_to c.args.bytes.now c.loop-byte.byte-index c.loop-byte-test.true)
    (fed_up_to _ (fed_next c.loop-byte.invariant.fed c.in_err-feed_one.ensures.fed)))

pub loop-byte-preserved : goal.loop-byte-preserved
loop-byte-preserved g c =
    let room = c.loop-byte.invariant.room in
    let next = c.in_ok-feed_one.ensures.fed room.bytes room.text room.held in record {
      room = record { bytes = _; text = _; held = next.fed; within = grind (arith, length-append) };
      fed = fed_whole (sym (take_more c.args.bytes.now c.loop-byte.byte-index 0 c.loop-byte-test.true))
          (fed_next c.loop-byte.invariant.fed c.in_ok-feed_one.ensures.fed);
      empty = c.in_ok-feed_one.ensures.emptied;
      well = well_now _ _ c.in_ok-feed_one.ensures.failed ∙ c.loop-byte.invariant.well;
    }

pub loop-byte-init : goal.loop-byte-init
loop-byte-init g c = grind (arith, Appends-nil, append-nil {A = ℕ})

pub feed_one-requires-clause-room : goal.feed_one-requires-clause-room
feed_one-requires-clause-room g c = grind arith

pub returns-clause-fed : goal.returns-clause-fed
returns-clause-fed g c = grind (arith, common_steps, fed_whole, take_all, c.loop-byte-test.false)

pub returns-clause-failed : goal.returns-clause-failed
returns-clause-failed g c = c.loop-byte.invariant.well ∙ sym (well_now _ _ refl)
