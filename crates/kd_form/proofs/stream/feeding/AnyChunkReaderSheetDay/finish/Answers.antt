use Rattle.kd_form.proofs.Streaming.{err_is, arith, short_of}
use Rattle.kd_form.proofs.stream.feeding.AnyChunkReaderSheetDay.finish.Goals as goal

pub returns-in_err-put_all-clause-ended : goal.returns-in_err-put_all-clause-ended
returns-in_err-put_all-clause-ended g c = grind (arith, err_is, short_of)
