use Rattle.kd_host.proofs.Failing.{err-holds, has_failed-same}
use Rattle.{kd_host.specs.Files.IsReadWhole, kd_tables.specs.Ports.port}
use Rattle.std.proofs.Common.{arith, length-append, length-take}
use Rattle.std.proofs.KnownBytes.{Consumes-trans}
use Rattle.kd_host.proofs.content.read_whole.Goals as goal

pub returns-in_err-extend_from_slice-in-Ok : goal.returns-in_err-extend_from_slice-in-Ok
returns-in_err-extend_from_slice-in-Ok g c =
    let source = port g.S.Source.remaining g.S.Source.has_failed c.args.source.now c.get.new.self in
    err-holds c.from_residual.result _ (λ answer. IsReadWhole source answer) c.from_residual.ensures.1 (record {
      read = _;
      given = Consumes-trans _ _ _ _ _ c.loop-buffer.invariant.given c.in-Ok.ensures.bytes.given;
      is = (
        rw length-append (omega (
          arith,
          length-take c.in-Ok.count c.get.new.buffer,
          length-take c.min-room.result c.loop-buffer.buffer,
          c.in-Ok.ensures.bytes.within,
        )),
        rw (has_failed-same _ _ c.in-Ok.ensures.failed) c.loop-buffer.invariant.well,
      );
    })
