use Rattle.kd_form.proofs.Streaming.{err_is, arith, read_refused, read_in_part, read_whole, refl, subst, Appends, TakesPrefix}
use Rattle.kd_form.proofs.typing.TypistChunkReaderMachine.read_chunk.Goals as goal

pub returns-in_err-put_all-clause-fed : goal.returns-in_err-put_all-clause-fed
returns-in_err-put_all-clause-fed g c =
    let piece = c.type_chunk-allowed.ensures in
    rw (err_is _ _ c.from_residual.ensures.1) (read_in_part _ _ _ _ _ _ piece.allowed piece.lights refl _ _ _ _
    (subst (TakesPrefix _ _) c.deref.ensures.0 c.in_err-put_all.ensures.text.front))

pub returns-then-allowed-bytes-clause-fed : goal.returns-then-allowed-bytes-clause-fed
returns-then-allowed-bytes-clause-fed g c =
    let piece = c.type_chunk-allowed.ensures in
    read_refused _ _ _ _ _ _ piece.allowed piece.lights refl _ _ _ _
    (subst (Appends _ _) c.deref.ensures.0 c.in_ok-put_all.ensures.text.whole) c.if-allowed-bytes.true

pub returns-clause-fed : goal.returns-clause-fed
returns-clause-fed g c =
    let piece = c.type_chunk-allowed.ensures in
    read_whole _ _ _ _ _ _ piece.allowed piece.lights refl _ _ _ _
    (subst (Appends _ _) c.deref.ensures.0 c.in_ok-put_all.ensures.text.whole) (omega (arith, c.if-allowed-bytes.false))
