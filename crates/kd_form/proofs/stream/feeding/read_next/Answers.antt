use Rattle.kd_form.proofs.Prelude.{length-take, arith}
use Rattle.kd_form.proofs.stream.feeding.read_next.Goals as goal

pub read_into-requires-clause-room : goal.read_into-requires-clause-room
read_into-requires-clause-room g c = grind (arith, length-take)

pub returns : goal.returns
returns g c bytes text held few =
    let chunk = c.read_into.ensures bytes text held (grind (arith, length-take)) in
    record {
      more = chunk.more;
      made = chunk.made;
      within = grind (arith, length-take, chunk.within);
      given = chunk.given;
      written = chunk.written;
      read = chunk.read;
    }
