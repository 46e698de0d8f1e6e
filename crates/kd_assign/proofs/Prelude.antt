-- Names from other crates, and of this crate's definitions, that the proofs of this crate use.
pub use Rattle.kd_assign.specs.{Assignment.{IsOneToOne, assignment_cost}, Scans.scans_of_tree}
pub use Rattle.kd_assign.specs.Prices.{AreCostsAtMost, FitCosts, cost_at, price_at, price_sum, sum_of}
pub use Rattle.kd_assign.specs.PartialAssignment.{IsColumnTakenBy, IsCheapestColumn, IsColumnFree, IsRowAssigned}
pub use Rattle.kd_assign.specs.PartialAssignment.{IsSolvedUpTo}
pub use Rattle.kd_assign.specs.Tree.{AreWithinCeilings, AreCompared, IsCompared, IsNearest, has_column, room_at}
pub use Rattle.std.proofs.lemmas.Bool.{cases_Bool, cases_eq, cases_lt, eq-eqb, eqb-true, false≢true}
pub use Rattle.std.proofs.lemmas.{Grind.common_steps, Int.{clamps, ints, to_z-of_z}, Option.{none-some, same_Some}}
pub use Rattle.std.proofs.lemmas.List.{get_or-set_other, get_or-set_same, get_or_default, get_or_past, length-set}
pub use Rattle.std.proofs.lemmas.List.Sums.{count_by-le-length, get_or-le-sum_by, sum_by-cons, sum_by-set, sum_by_more}
