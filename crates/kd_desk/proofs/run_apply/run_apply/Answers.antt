use Rattle.kd_desk.proofs.{Prelude.{machine_of, port, Applies, LacksMemory}, Applying.of_read}
use Rattle.kd_desk.proofs.run_apply.run_apply.Goals as goal

pub returns-clause-applied : goal.returns-clause-applied
returns-clause-applied g c =
    let sink = port g.W.Sink.taken g.W.Sink.has_failed c.args.sink.now c.apply.new.sink in
    of_read (machine_of c.args.machine.now) c.in_ok-machine.machine (λ m. Applies m c.args.list.now sink c.apply.result)
    (LacksMemory c.apply.result)
    c.in_ok-machine.ensures c.apply.ensures.applied
