use Rattle.kd_form.proofs.Streaming.{err_is, arith, AtSource, InFeeding, failed_now, well_now, Consumes-kept}
use Rattle.kd_form.proofs.Streaming.{Appends-nil, [], rules, append-nil}
use Rattle.kd_form.proofs.stream.feeding.read_into.Goals as goal

pub returns-in_err-read_chunk : goal.returns-in_err-read_chunk
returns-in_err-read_chunk g c bytes text held few =
    let fed = c.in_err-read_chunk.ensures.fed bytes text held in
    record {
      more = _;
      made = fed.made;
      within = search rules;
      given = c.in-Ok.ensures.bytes.given;
      written = fed.written;
      read = grind (arith, err_is, InFeeding, well_now);
    }

pub returns-in_default : goal.returns-in_default
returns-in_default g c bytes text held few = record {
  more = [];
  made = [];
  within = omega arith;
  given = grind (arith, Consumes-kept);
  written = Appends-nil _;
  read = grind (arith, AtSource, failed_now, append-nil);
}
