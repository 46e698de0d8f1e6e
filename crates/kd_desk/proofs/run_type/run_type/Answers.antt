use Rattle.kd_desk.proofs.{Prelude.{machine_of, port, TypesText, LacksMemory}, Applying.of_read}
use Rattle.kd_desk.proofs.Streaming.{FailureAgrees-passed_on, off_key, passed_on}
use Rattle.kd_desk.proofs.run_type.run_type.Goals as goal

pub returns-clause-typed : goal.returns-clause-typed
returns-clause-typed g c =
    let source = port g.R.Source.remaining g.R.Source.has_failed c.args.source.now c.type_stream.new.source in
    let sink = port g.W.Sink.taken g.W.Sink.has_failed c.args.sink.now c.type_stream.new.sink in
    let answer = c.map_err.result in
    of_read (machine_of c.args.machine.now) c.in_ok-machine.machine (λ m. TypesText m source sink answer)
    (LacksMemory answer) c.in_ok-machine.ensures
    (record {
      told = c.type_stream.result;
      so = c.type_stream.ensures.streamed;
      answers = passed_on _ _ c.map_err.ensures.cases;
    })

pub returns-clause-untouched : goal.returns-clause-untouched
returns-clause-untouched g c =
    λ before. c.type_stream.ensures.untouched (off_key _ _ (passed_on _ _ c.map_err.ensures.cases) before)

pub returns-clause-failed : goal.returns-clause-failed
returns-clause-failed g c = FailureAgrees-passed_on _ _ _ _ (passed_on _ _ c.map_err.ensures.cases)
    c.type_stream.ensures.failed
