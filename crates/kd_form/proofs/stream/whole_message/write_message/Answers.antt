use Rattle.kd_form.proofs.Streaming.{append-nil, arith, [], length-append, ℕ}
use Rattle.kd_form.proofs.stream.whole_message.write_message.Goals as goal

pub finish-requires : goal.finish-requires
finish-requires g c =
    let fed = c.in_ok-feed_all.ensures.fed [] [] c.start-reader.ensures in grind (arith, length-append, fed)

pub returns-in_err-feed_all-clause-written : goal.returns-in_err-feed_all-clause-written
returns-in_err-feed_all-clause-written g c =
    let fed = c.in_err-feed_all.ensures.fed [] [] c.start-reader.ensures in grind (arith, append-nil {A = ℕ}, fed)
