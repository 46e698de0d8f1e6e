use Rattle.kd_assign.proofs.Prelude.{false≢true, ints}
use Rattle.std.proofs.Common.{arith, inl, inr, refl, sym, ℤ, ◌∙◌, ◌≤ℤ◌}
use Rattle.kd_assign.proofs.nearest.Nearest.nearer.Goals as goal

at_most_itself : (x : ℤ) → x ≤ℤ x
at_most_itself x = omega (arith, ints)

pub returns-then-reached-second : goal.returns-then-reached-second
returns-then-reached-second g c = record {
  one = inl refl;
  first = λ s h. h;
  second = λ outside. absurd (false≢true (sym outside ∙ c.if-reached-second.true));
}

pub returns-in_default : goal.returns-in_default
returns-in_default g c = record {
  one = inr (c.if-reached-second.false, refl);
  first = λ s h. absurd (rw c.in_default.is at h);
  second = λ outside. at_most_itself _;
}

pub returns-then-is_some-clause-one : goal.returns-then-is_some-clause-one
returns-then-is_some-clause-one g c = inl c.in-Some.is

pub returns-then-is_some-clause-first : goal.returns-then-is_some-clause-first
returns-then-is_some-clause-first g c = λ s h. rw c.in-Some.is at h

pub returns-else-is_some-clause-one : goal.returns-else-is_some-clause-one
returns-else-is_some-clause-one g c = inr (c.if-reached-second.false, refl)

pub returns-else-is_some-clause-second : goal.returns-else-is_some-clause-second
returns-else-is_some-clause-second g c = λ outside. at_most_itself _
