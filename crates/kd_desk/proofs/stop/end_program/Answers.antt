use Rattle.kd_desk.proofs.Prelude.{port, subst, sym}
use Rattle.kd_desk.specs.Ending.{EndsAs}
use Rattle.kd_host.proofs.Endings.{ends_without_line}
use Rattle.kd_desk.proofs.stop.end_program.Goals as goal

pub returns-in_default : goal.returns-in_default
returns-in_default g c =
    let errors = port g.E.Sink.taken g.E.Sink.has_failed c.args.errors.now c.args.errors.now in
    subst (λ answer. EndsAs answer errors 0) (sym c.in_default.is)
    (ends_without_line g.E.Sink.taken g.E.Sink.has_failed c.args.errors.now 0)

pub returns : goal.returns
returns g c = rw (c.in-Err.is, ← c.status.ensures, ← c.line.ensures, ← c.as_str.ensures.value)
    c.end_with_line.ensures
