use Rattle.kd_state.proofs.Prelude.{Decides-eqb, nat_tests, ranks_by, nat_cmp_total, Bool, arith, false, nat_eq, ℕ, ◌≡◌}
use Rattle.kd_state.proofs.{Prelude.is_lt, Prelude.nat_cmp, SortedAlike.sorted_tell}
use Rattle.kd_state.proofs.sheet_day.rotor_entry.are_reordered.Goals as goal

-- `one` comes before `other` in the alphabet
abbrev before : ℕ → ℕ → Bool
before one other = is_lt (nat_cmp one other)

neither_before : (one other : ℕ) → before one other ≡ false → before other one ≡ false → one ≡ other
neither_before one other after earlier = grind (arith, nat_tests)

pub returns : goal.returns
returns c =
    sorted_tell before (ranks_by nat_cmp_total (λ (letter : ℕ). letter))
    neither_before nat_eq Decides-eqb c.args.group c.args.letters _ _ _
    c.sort_unstable.ensures.permutation c.sort_unstable-2.ensures.permutation c.sort_unstable.ensures.sorted
    c.sort_unstable-2.ensures.sorted c.eq.ensures
