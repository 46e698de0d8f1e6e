use Rattle.std.proofs.Common.{refl, subst}
use Rattle.{kd_tables.specs.Ports.port, kd_tables.specs.Writing.Writes}
use Rattle.kd_host.proofs.ending.end_with_line.Goals as goal

pub returns : goal.returns
returns g c =
    let errors = port g.E.Sink.taken g.E.Sink.has_failed c.args.errors.now c.put_all.new.sink in
    record {
      ends = refl;
      written = c.put_all.result;
      told = subst (λ line. Writes errors.had errors.has line c.put_all.result) c.as_bytes.ensures.value
          c.put_all.ensures.text;
      failed = c.put_all.ensures.failed;
    }
