use Rattle.kd_state.proofs.Prelude.{IsPermutation, ap, arith, cables_of, not-false, rules, subst, sym, ◌∙◌}
use Rattle.kd_state.proofs.Wheels.{all_tested, seats_Decides}
use Rattle.kd_state.proofs.machine.on_key.is_rotor_on_key.Goals as goal

pub returns-then-ne-3 : goal.returns-then-ne-3
returns-then-ne-3 c = grind (arith, seats_Decides c.as_slice.result.now c.as_slice-2.result.now)

pub returns-then-not-have_rings : goal.returns-then-not-have_rings
returns-then-not-have_rings c = grind (arith, all_tested _ _ _ _ c.have_rings.ensures c.as_slice-3.ensures.value)

pub returns : goal.returns
returns c =
    let seats = seats_Decides c.as_slice.result.now c.as_slice-2.result.now in
    let rings = all_tested _ _ _ _ c.have_rings.ensures c.as_slice-3.ensures.value in
    let due = c.cables_of.ensures ∙ ap cables_of c.as_slice-4.ensures.value in (
      λ yes. record {
        model = search rules;
        slots =
            sym c.as_slice.ensures.value ∙ seats.0 (not-false _ (sym c.ne-2.ensures ∙ c.if-ne-3.false))
            ∙ c.as_slice-2.ensures.value ∙ c.seats-seats.ensures;
        rings = rings.0 c.if-not-have_rings.false;
        reflector = search rules;
        cables = subst (IsPermutation c.args.parts.now.cables) due (c.has_cables.ensures.0 yes);
      },
      λ key. c.has_cables.ensures.1 (subst (IsPermutation c.args.parts.now.cables) (sym due) key.cables),
    )
