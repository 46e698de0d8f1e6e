use Rattle.{std.proofs.Common.{inl, inr, rules, arith}, kd_assign.proofs.Prelude.{cases_eq, common_steps, to_z-of_z}}
use Rattle.kd_assign.proofs.growth.lower_prices.Goals as goal

pub loop-column-preserved : goal.loop-column-preserved
loop-column-preserved g c = record {
  len = search rules;
  lowered = λ j h. elim (cases_eq j c.loop-column.column) [
    | inl same ↦ grind (arith, common_steps, to_z-of_z)
    | inr other ↦ grind (arith, common_steps, c.loop-column.invariant.lowered j)
  ];
  still = search rules;
}
