use Rattle.kd_state.proofs.Prelude.{Decides, Option, arith, nat_cmp_total, nat_eq, nat_tests, option_eq, options_total}
use Rattle.kd_state.proofs.Prelude.{ℕ, ◌≡◌}
use Rattle.kd_state.proofs.SortedAlike.{pairs_tell}
use Rattle.kd_state.proofs.machine.on_key.has_cables.Goals as goal

same_end : (one other : Option ℕ) → Decides (option_eq nat_eq one other) (one ≡ other)
same_end one other = grind (arith, nat_tests)

pub returns : goal.returns
returns c =
    pairs_tell (options_total nat_cmp_total) (option_eq nat_eq) (λ x y. grind (arith, nat_tests)) same_end
    c.args.parts.now.cables c.args.cables _ _ _ c.sort_unstable.ensures.permutation
    c.sort_unstable-2.ensures.permutation c.sort_unstable.ensures.sorted c.sort_unstable-2.ensures.sorted c.eq.ensures
