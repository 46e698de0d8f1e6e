use Rattle.kd_assign.proofs.Prelude.{IsCompared, false≢true, get_or-set_other}
use Rattle.kd_assign.proofs.Prelude.{get_or-set_same, ints, price_at, to_z-of_z}
use Rattle.std.proofs.Common.{Bool, SFits, arith, false, inl, inr, length, pos, refl, rules, sym, w16, ℕ, ℤ}
use Rattle.std.proofs.Common.{◌<◌, ◌∙◌, ◌≡◌, ◌≤ℤ◌}
use Rattle.std.specs.Prelude.{◌<ℤ◌}
use Rattle.kd_assign.proofs.nearest.Nearest.compare.Goals as goal
use Rattle.kd_assign.proofs.nearest.Nearest.compare.Goals.{else-not-reached-via-else-not-reached}
use Rattle.kd_assign.proofs.nearest.Nearest.compare.Goals.{else-not-reached-via-then-not-reached+else-closer}

lower_offer : (row near : ℕ) (offer ceiling : ℤ) → offer <ℤ ceiling
    → IsCompared false row offer near ceiling row offer
lower_offer row near offer ceiling less = record {
  one = inr (refl, refl, refl);
  least = omega (arith, ints);
  here = λ outside. omega (arith, ints);
}

not_lower : (offer ceiling : ℤ) → ¬ (offer <ℤ ceiling) → ceiling ≤ℤ offer
not_lower offer ceiling none = grind (arith, ints)

kept : (reached : Bool) (row near : ℕ) (offer ceiling : ℤ) → (reached ≡ false → ceiling ≤ℤ offer)
    → IsCompared reached row offer near ceiling near ceiling
kept reached row near offer ceiling here = record { one = inl (refl, refl); least = omega (arith, ints); here = here }

pub returns-then-closer-clause-compared : goal.returns-then-closer-clause-compared
returns-then-closer-clause-compared g c =
    let nearest = c.args.self.now in
    let column = c.args.column in
    let offer = to_z-of_z w16 c.args.offer c.ranges.offer in
    let fits : SFits w16 (price_at nearest.ceiling column) = search rules in
    let less = rw (offer, to_z-of_z w16 _ fits) at (c.closer.ensures.less.0 c.if-closer.true) in
    let in_rows : column < length nearest.row = search rules in
    let in_ceilings : column < length nearest.ceiling = search rules in
    rw (
      c.if-not-reached.true,
      offer,
      get_or-set_same nearest.row column c.args.row 0 in_rows,
      get_or-set_same nearest.ceiling column c.args.offer (pos 0) in_ceilings,
    )
    (lower_offer _ _ _ _ less)

pub returns-then-closer-clause-other_rows : goal.returns-then-closer-clause-other_rows
returns-then-closer-clause-other_rows g c = λ j other.
    get_or-set_other c.args.self.now.row c.args.column j c.args.row 0 other

pub returns-then-closer-clause-other_ceilings : goal.returns-then-closer-clause-other_ceilings
returns-then-closer-clause-other_ceilings g c = λ j other.
    get_or-set_other c.args.self.now.ceiling c.args.column j _ (pos 0) other

pub returns-else-not-reached-clause-other_rows : goal.returns-else-not-reached-clause-other_rows
returns-else-not-reached-clause-other_rows g c = λ j other. refl

pub returns-else-not-reached-clause-other_ceilings : goal.returns-else-not-reached-clause-other_ceilings
returns-else-not-reached-clause-other_ceilings g c = λ j other. refl

pub returns-else-not-reached-clause-compared : goal.returns-else-not-reached-clause-compared
returns-else-not-reached-clause-compared g c =
    let offer = to_z-of_z w16 c.args.offer c.ranges.offer in
    kept _ _ _ _ _ (λ outside. elim c.else-not-reached.branch [
      | else-not-reached-via-then-not-reached+else-closer w ↦
          let fits : SFits w16 (price_at c.args.self.now.ceiling c.args.column) = search rules in
          not_lower _ _ (λ less.
          false≢true (sym w.if-closer.false ∙ w.closer.ensures.less.1 (rw (offer, to_z-of_z w16 _ fits) less)))
      | else-not-reached-via-else-not-reached w ↦ absurd (false≢true (sym outside ∙ w.if-not-reached.false))
    ])

pub returns-else-not-reached-clause-counted : goal.returns-else-not-reached-clause-counted
returns-else-not-reached-clause-counted g c = elim c.else-not-reached.branch [
  | else-not-reached-via-then-not-reached+else-closer w ↦
      rw (w.scans-is, w.if-not-reached.true) (omega (arith, w.closer.ensures.counted))
  | else-not-reached-via-else-not-reached w ↦ rw (w.scans-is, w.if-not-reached.false) refl
]
