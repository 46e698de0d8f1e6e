use Rattle.std.proofs.Common.{arith, sym, true, false, ◌∙◌}
use Rattle.kd_host.proofs.Failing.{err-holds}
use Rattle.kd_host.proofs.FileNames.{misses_so}
use Rattle.kd_curator_command.specs.CommandLine.{unborrowed_names}
use Rattle.kd_curator.specs.Files.{all_read}
use Rattle.kd_curator.proofs.Reading.{Reads, ask_end, ask_missed, ask_step, asks_one, read_missed, read_step}
use Rattle.kd_curator.proofs.files.read_contents.Goals as goal

pub loop-name-preserved : goal.loop-name-preserved
loop-name-preserved g c = record {
  read = λ answer reads. c.loop-name.invariant.read answer
      (read_step c.args.names.now c.loop-name.name-index _ c.loop-name-test.true _ _ _ _ _ _ answer
      c.loop-name.invariant.same c.new.ensures c.push.ensures.items c.in_ok-content.ensures.content reads);
  asked = λ newer had asks. c.loop-name.invariant.asked newer had
      (ask_step c.args.names.now c.loop-name.name-index _ c.loop-name-test.true _ _ newer had
      c.in_ok-content.ensures.asked asks);
  same = c.in_ok-content.ensures.same ∙ c.loop-name.invariant.same;
  many = omega (arith, c.push.ensures.len, c.loop-name.invariant.many);
  count = asks_one _ _ _ _ c.in_ok-content.ensures.asked c.loop-name.invariant.count ∙ sym c.push.ensures.len;
}

pub returns-in_err-content-clause-read : goal.returns-in_err-content-clause-read
returns-in_err-content-clause-read g c =
    err-holds _ c.in_err-content.field-0.0
    (λ a. Reads (g.F.Files.known c.args.files.now) c.args.contents.now.items (unborrowed_names c.args.names.now)
    (all_read c.loop-name.contents.items a)) c.from_residual.ensures.1
    (c.loop-name.invariant.read _ (read_missed c.args.names.now c.loop-name.name-index _ c.loop-name-test.true
    _ _ _ _ c.loop-name.invariant.same c.in_err-content.ensures.content))

pub returns-in_err-content-clause-asked : goal.returns-in_err-content-clause-asked
returns-in_err-content-clause-asked g c =
    misses_so _ _ _ _ _ c.from_residual.ensures.1
    (c.loop-name.invariant.asked _ false (ask_missed c.args.names.now c.loop-name.name-index _ c.loop-name-test.true
    _ _ c.in_err-content.ensures.asked))

pub returns-in_err-content-clause-place : goal.returns-in_err-content-clause-place
returns-in_err-content-clause-place g c =
    λ err. asks_one _ _ _ _ c.in_err-content.ensures.asked c.loop-name.invariant.count

pub returns-clause-asked : goal.returns-clause-asked
returns-clause-asked g c = c.loop-name.invariant.asked _ true
    (ask_end c.args.names.now c.loop-name.name-index c.loop-name-test.false _)
