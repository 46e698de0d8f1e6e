use Rattle.std.proofs.Common.{ap, ◌∙◌}
use Rattle.kd_curator.proofs.Passing.{carried_on, failed_on, none_gathered, stopped_on}
use Rattle.kd_curator.proofs.program.run_gathering.Goals as goal

pub returns : goal.returns
returns g c = λ l words meant.
    let run = c.run_command-done.ensures in
    let rest = c.pass_rest_on-answer.ensures in
    let made = c.new-gathering.ensures in
    let taken = g.W.Sink.taken in
    let has_failed = g.W.Sink.has_failed in (
      c.pass_rest_on-answer.new.sink.gathered.items,
      record {
        carried = carried_on _ _ _ _ _ _ _ _ _ _ rest.ends (rw (made.gathered, made.sink) (none_gathered _))
            (rw c.into_sink.ensures rest.kept) (run.carried l words meant);
        untouched = λ stopped. stopped_on _ _ _ rest.ends
            (λ err early. c.into_sink.ensures ∙ ap (λ b. b.sink) (rest.untouched err ∙ run.untouched early) ∙ made.sink)
            stopped;
        failed = rw c.into_sink.ensures (failed_on _ _ _ _ _ _ rest.ends (rw made.sink at run.failed)
            (λ err. ap (λ b. has_failed b.sink) (rest.untouched err)) rest.failed);
      },
    )
