use Rattle.std.proofs.Common.{arith}
use Rattle.kd_lost.proofs.KeyLetters.{chosen_there}
use Rattle.kd_lost.proofs.copies.chosen_copies.Goals as goal

pub returns : goal.returns
returns c =
    chosen_there c.args.start.now c.args.end.now c.index-start-0.result c.index-start-1.result c.index-end-0.result
    c.index-end-1.result (omega arith) (omega arith) c.index-start-0.is c.index-start-1.is c.index-end-0.is
    c.index-end-1.is
