use Rattle.std.proofs.{Common.arith, lemmas.List.take_all, lemmas.List.Sums.sum_by_more}
use Rattle.kd_drum.proofs.counts.bars_met_by.Goals as goal

pub loop-bar-preserved : goal.loop-bar-preserved
loop-bar-preserved c = grind (arith, sum_by_more)

pub returns : goal.returns
returns c = grind (arith, take_all)
