use Rattle.kd_form.proofs.Streaming.{err_is, fed_in_part, append-nil, Appends-nil, arith}
use Rattle.kd_form.proofs.stream.feeding.feed_one.Goals as goal

pub returns-in_err-feed-clause-fed : goal.returns-in_err-feed-clause-fed
returns-in_err-feed-clause-fed g c = grind (arith, err_is, Appends-nil, append-nil)

pub returns-clause-fed : goal.returns-clause-fed
returns-clause-fed g c = grind arith

pub returns-in_err-put_all-clause-fed : goal.returns-in_err-put_all-clause-fed
returns-in_err-put_all-clause-fed g c = grind (arith, err_is, fed_in_part)

pub returns-in_err-feed-clause-failed : goal.returns-in_err-feed-clause-failed
returns-in_err-feed-clause-failed g c = grind (arith, err_is)

pub returns-in_err-put_all-clause-failed : goal.returns-in_err-put_all-clause-failed
returns-in_err-put_all-clause-failed g c = grind (arith, err_is)

pub returns-clause-failed : goal.returns-clause-failed
returns-clause-failed g c = grind arith
