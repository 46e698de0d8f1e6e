use Rattle.kd_form.proofs.Streaming.{err_is, short_of, typed_ends, Ok}
use Rattle.kd_form.proofs.typing.TypistChunkReaderMachine.finish.Goals as goal

pub returns-clause-ended : goal.returns-clause-ended
returns-clause-ended g c bytes text held =
    record { made = _; written = c.in_ok-put_all.ensures.text.whole; ended = typed_ends _ _ bytes text held }

pub returns-in_err-put_all-clause-ended : goal.returns-in_err-put_all-clause-ended
returns-in_err-put_all-clause-ended g c bytes text held =
    let (count, less, put) = c.in_err-put_all.ensures.text.front in rw (err_is _ _ c.from_residual.ensures.1)
    (record { made = _; written = put; ended = (_, Ok tt, typed_ends _ _ bytes text held, short_of text _ count less) })
