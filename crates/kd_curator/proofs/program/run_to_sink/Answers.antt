use Rattle.std.proofs.Common.{ap, inl, ◌∙◌}
use Rattle.kd_curator_command.specs.CommandLine.{unborrowed_names}
use Rattle.kd_curator.proofs.program.run_to_sink.Goals as goal

pub returns : goal.returns
returns g c = λ l words meant none.
    let run = c.run_gathering-answer.ensures l words meant in
    let between = c.run_gathering-answer.new.errors in
    record {
      left = run.0;
      answer = c.run_gathering-answer.result.0;
      told = g.E.Sink.taken between;
      failed = g.E.Sink.has_failed between;
      names = unborrowed_names c.as_slice.result.now;
      language = c.args.request.language;
      is_so = (inl none, run.1);
      named = inl (_, meant.said, ap unborrowed_names c.as_slice.ensures.value ∙ c.names_of-names.ensures);
      spoken = inl (_, meant.said, meant.language);
      ends = c.end_program-status.ensures;
    }
