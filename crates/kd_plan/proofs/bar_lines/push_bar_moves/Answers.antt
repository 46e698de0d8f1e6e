use Rattle.std.specs.Ordering.{partial_lt}
use Rattle.kd_tables.specs.contracts.place.PlacePartialOrd.TheImpl.{partial_cmp-value}
use Rattle.std.proofs.Common.{arith, sym, ℕ, ◌≡◌, ◌++◌, ◌∙◌, Some, true, false, nat_lt, refl}
use Rattle.std.proofs.lemmas.Grind.{common_steps}
use Rattle.kd_tables.specs.Places.{place_rank}
use Rattle.kd_tables.specs.declared.place.Place.{Place}
use Rattle.kd_tables.specs.declared.lug.Lug.TheVariants.{Left, Right}
use Rattle.kd_card.specs.Loose.{setting_unless}
use Rattle.kd_state.specs.Costs.{nearest_standing}
use Rattle.kd_state.specs.Setting.{is_same_place}
use Rattle.kd_state.specs.declared.setting.Setting.TheVariants.{LugTo}
unfoldable use Rattle.kd_plan.specs.Moves.{bar_moves}
use Rattle.kd_plan.proofs.bar_lines.push_bar_moves.Goals as goal

-- the left lug goes first if its new place is to the left of the right lug's old place
left_first : (number : ℕ) (bar target : Place × Place) (row : ℕ × ℕ) → nearest_standing bar row ≡ Some target
    → nat_lt (place_rank target.0) (place_rank bar.1) ≡ true
    → bar_moves number (bar, row) ≡ setting_unless (is_same_place bar.0 target.0) (LugTo number Left target.0)
    ++ setting_unless (is_same_place bar.1 target.1) (LugTo number Right target.1)
unfolding bar_moves
left_first number bar target row near before = rw (near, before) refl

-- otherwise the right lug goes first
right_first : (number : ℕ) (bar target : Place × Place) (row : ℕ × ℕ) → nearest_standing bar row ≡ Some target
    → nat_lt (place_rank target.0) (place_rank bar.1) ≡ false
    → bar_moves number (bar, row) ≡ setting_unless (is_same_place bar.1 target.1) (LugTo number Right target.1)
    ++ setting_unless (is_same_place bar.0 target.0) (LugTo number Left target.0)
unfolding bar_moves
right_first number bar target row near behind = rw (near, behind) refl

-- the derived `<` of places says which one is to the left
lt_is_before : (one other : Place) → partial_lt (partial_cmp-value).it one other
    ≡ nat_lt (place_rank one) (place_rank other)
lt_is_before one other = grind arith

pub returns-then-lt-clause-items : goal.returns-then-lt-clause-items
returns-then-lt-clause-items c =
    let before = sym (lt_is_before c.left.result c.right.result) ∙ sym c.if-lt.ensures in
    let moves = left_first c.args.number c.args.bar c.nearest_standing-target.result c.args.row
    c.nearest_standing-target.ensures.nearest (rw (c.left.ensures, c.right.ensures.value) at before) in
    grind (arith, common_steps, moves)

pub returns-else-lt-clause-items : goal.returns-else-lt-clause-items
returns-else-lt-clause-items c =
    let behind = sym (lt_is_before c.left.result c.right.result) ∙ sym c.if-lt.ensures in
    let moves = right_first c.args.number c.args.bar c.nearest_standing-target.result c.args.row
    c.nearest_standing-target.ensures.nearest (rw (c.left.ensures, c.right.ensures.value) at behind) in
    grind (arith, common_steps, moves)
