use Rattle.std.proofs.{Common.arith, lemmas.List.take_all, lemmas.List.Sums.{count_by-le-length, sum_by_more}}
use Rattle.kd_typing.proofs.pin_rows.bars_met.Goals as goal

pub loop-bar-preserved : goal.loop-bar-preserved
loop-bar-preserved c = grind (arith, sum_by_more)

pub returns-clause-value : goal.returns-clause-value
returns-clause-value c = grind (arith, take_all)

pub returns-clause-most : goal.returns-clause-most
returns-clause-most c = grind (arith, take_all, count_by-le-length)
