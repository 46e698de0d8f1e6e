use Rattle.kd_plan.proofs.Planning.{planned_card_is_proved}
use Rattle.kd_plan.proofs.planner.plan.Goals as goal

pub returns-in-Some-Rotor-clause-card : goal.returns-in-Some-Rotor-clause-card
returns-in-Some-Rotor-clause-card c =
    let h = c.in-Some-Rotor in
    let parts = rw h.field-0-is at h.ensures.parted in
    let made = c.rotor_card.ensures in
    rw (parts.0, parts.1)
    (planned_card_is_proved _ _ _ _ (rw parts.0 at h.ensures.machine) (rw parts.1 at h.ensures.day) made.prices
    made.planned made.spares)

pub returns-in-Some-Pin-clause-card : goal.returns-in-Some-Pin-clause-card
returns-in-Some-Pin-clause-card c =
    let h = c.in-Some-Pin in
    let parts = rw h.field-0-is at h.ensures.parted in
    let made = c.pin_card.ensures in
    rw (parts.0, parts.1)
    (planned_card_is_proved _ _ _ _ (rw parts.0 at h.ensures.machine) (rw parts.1 at h.ensures.day) made.prices
    made.planned tt)
