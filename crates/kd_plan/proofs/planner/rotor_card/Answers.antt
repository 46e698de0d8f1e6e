use Rattle.kd_plan.proofs.Planning.{SparesStayFree-planned}
use Rattle.kd_plan.proofs.planner.rotor_card.Goals as goal

pub returns-clause-spares : goal.returns-clause-spares
returns-clause-spares c =
    let pairs = c.as_slice-pairs.ensures.value in
    rw (c.push_moves-2.ensures.items, c.push_moves.ensures.items, c.rotor_settings-settings.ensures.lines, pairs)
    (SparesStayFree-planned _ _ _ c.requires.machine c.requires.legal c.requires.model c.keep_spares_free.array_long
    c.keep_spares_free.ensures.one_to_one (rw pairs at c.keep_spares_free.ensures.spares))
