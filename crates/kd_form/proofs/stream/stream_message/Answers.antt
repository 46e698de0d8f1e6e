use Rattle.kd_form.proofs.Streaming.{err_is, SoFar-read, SoFar-ended, IsStreamed-stopped, IsStreamed-closed, well_now}
use Rattle.kd_form.proofs.Streaming.{[], ◌∷◌, ◌++◌, ◌∙◌, refl, arith, TooLong, Consumes-nil, Consumes-trans}
use Rattle.kd_form.proofs.Streaming.{Appends-nil}
use Rattle.kd_form.proofs.stream.stream_message.Goals as goal

pub loop-read-init : goal.loop-read-init
loop-read-init g c = grind (arith, Consumes-nil, Appends-nil)

pub read_next-requires-clause-room : goal.read_next-requires-clause-room
read_next-requires-clause-room g c =
    let before = c.loop-read.invariant in
    record {
      bytes = before.read;
      text = before.text;
      held = before.held;
      within = omega (arith, before.counted, before.within);
    }

pub close-requires : goal.close-requires
close-requires g c = grind (arith, SoFar-read c.loop-read.invariant refl _ c.in_ok-count.ensures)

pub returns-in-0 : goal.returns-in-0
returns-in-0 g c =
    IsStreamed-closed (
      (SoFar-read c.loop-read.invariant refl _ c.in_ok-count.ensures).0,
      (SoFar-read c.loop-read.invariant refl _ c.in_ok-count.ensures).1 c.in-0.is,
    ) c.close.ensures

pub loop-read-preserved : goal.loop-read-preserved
loop-read-preserved g c = (SoFar-read c.loop-read.invariant refl _ c.in_ok-count.ensures).0

pub returns-in_err-count : goal.returns-in_err-count
returns-in_err-count g c =
    rw (err_is _ _ c.from_residual.ensures.1)
    (IsStreamed-stopped c.loop-read.invariant refl _ _ refl c.in_err-count.ensures)

pub close-requires-2 : goal.close-requires-2
close-requires-2 g c =
    let before = c.loop-read.invariant in
    record {
      bytes = before.read;
      text = before.text;
      held = before.held;
      within = omega (arith, before.counted, before.within);
    }

pub returns : goal.returns
returns g c =
    IsStreamed-closed (SoFar-ended c.loop-read.invariant c.if-not-branch.false c.in_ok-is_at_end.ensures.ends
    c.in_ok-is_at_end.ensures.failed) c.close-2.ensures

pub returns-then-not-branch : goal.returns-then-not-branch
returns-then-not-branch g c =
    let before = c.loop-read.invariant in
    let ends = rw c.if-not-branch.true at c.in_ok-is_at_end.ensures.ends in
    record {
      read = before.read ++ ends.0 ∷ [];
      text = before.text;
      given = Consumes-trans _ _ _ before.read (ends.0 ∷ []) before.given ends.1;
      written = before.written;
      answers =
          TooLong before.read ends.0 (refl {a = before.read ++ ends.0 ∷ []})
          (omega (arith, before.counted, before.within, c.loop-read-test.false))
          before.held.open_yet
          (well_now _ _ c.in_ok-is_at_end.ensures.failed ∙ before.well.0, before.well.1) refl;
    }
