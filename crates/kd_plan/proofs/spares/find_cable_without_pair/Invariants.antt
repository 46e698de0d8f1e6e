use Rattle.{kd_plan.specs.Spares.comes_before, std.proofs.Common.{get_or, true, ℕ, ◌<◌, ◌≡◌}}
use Rattle.kd_plan.proofs.spares.find_cable_without_pair.Given as goal

abbrev pub invariant-loop-place : goal.invariant-loop-place
invariant-loop-place l = (k : ℕ) → k < l.place → comes_before l.cables k l.spare ≡ true → get_or l.to k 0 < l.pairs
