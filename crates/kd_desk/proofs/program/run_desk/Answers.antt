use Rattle.kd_desk.proofs.program.run_desk.Goals as goal

pub returns : goal.returns
returns g c =
    let run = c.run_words.ensures in
    record {
      answer = c.run_words.result;
      is_so = record {
        carried = run.carried;
        asks = run.asked;
        usage = run.usage;
        other_words = run.other_words;
        none_asked = run.none_asked;
        untouched = run.untouched;
        failed = run.failed;
      };
      ends = c.end_program.ensures;
    }
