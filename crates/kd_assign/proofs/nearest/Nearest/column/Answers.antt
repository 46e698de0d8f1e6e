use Rattle.{std.proofs.Common.{inl, inr, rules, arith}, kd_assign.proofs.Prelude.cases_eq}
use Rattle.kd_assign.proofs.nearest.Nearest.column.Goals as goal

pub loop-column-preserved : goal.loop-column-preserved
loop-column-preserved g c = record {
  within = search rules;
  outside = search rules;
  least = λ j h misses. elim (cases_eq j c.loop-column.column) [
    | inl same ↦ rw same (c.nearer-least.ensures.second (rw same at misses))
    | inr other ↦ c.nearer-least.ensures.first _ (c.loop-column.invariant.least j (omega arith) misses)
  ];
}
