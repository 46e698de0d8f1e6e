use Rattle.std.proofs.Common.{◌≡◌, ◌<◌, ℕ, List, [], ◌∷◌, length, reverse, refl, arith}
use Rattle.std.proofs.lemmas.Grind.{common_steps}
use Rattle.kd_slips.specs.NearNames.{alike_at_end, alike_at_start}
use Rattle.kd_slips.proofs.near_names.+alike_at_end.Goals as goal

none_alike : (name : List ℕ) → 0 ≡ alike_at_start name []
none_alike [] = refl
none_alike (letter ∷ name) = refl

none_at_end : (name known : List ℕ) → length known < 1 → 0 ≡ alike_at_end name known
none_at_end name [] none = none_alike (reverse name)
none_at_end name (letter ∷ known) none = absurd (omega (arith, none))

pub returns-in_default-known-clause-value : goal.returns-in_default-known-clause-value
returns-in_default-known-clause-value t c =
    none_at_end c.args.name.now c.args.known.now c.in_default-known.len_below

pub returns-in_default-clause-value : goal.returns-in_default-clause-value
returns-in_default-clause-value t c = grind (arith, common_steps)

pub returns-then-not-eq_ignore_ascii_case-clause-value : goal.returns-then-not-eq_ignore_ascii_case-clause-value
returns-then-not-eq_ignore_ascii_case-clause-value t c = grind (arith, common_steps)

pub returns : goal.returns
returns t c = grind (arith, common_steps)
