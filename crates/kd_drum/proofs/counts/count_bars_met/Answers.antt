use Rattle.std.proofs.{Common.arith, Common.rules, lemmas.Bool.cases_eq, lemmas.Grind.common_steps}
use Rattle.kd_drum.proofs.counts.count_bars_met.Goals as goal

pub loop-wheels-preserved : goal.loop-wheels-preserved
loop-wheels-preserved c = record {
  size = search rules;
  each = λ k lt. grind (arith, common_steps, cases_eq, c.loop-wheels.invariant.each k);
}
