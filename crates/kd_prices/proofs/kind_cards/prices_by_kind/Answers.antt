use Rattle.kd_prices.proofs.Prelude.{ArePrices, IsOneModelOf, IsLegalDay, IsMachine, subst, sym, ◌∙◌}
use Rattle.kd_prices.proofs.kind_cards.prices_by_kind.Goals as goal

pub cable_prices_by_kind-requires-clause-machine : goal.cable_prices_by_kind-requires-clause-machine
cable_prices_by_kind-requires-clause-machine c =
    let parted = subst (IsOneModelOf _ _) c.in-Rotor-Cables.is-0 c.in_ok-parts.ensures.parted in
    subst IsMachine parted.0 c.in_ok-parts.ensures.machine

pub cable_prices_by_kind-requires-clause-day : goal.cable_prices_by_kind-requires-clause-day
cable_prices_by_kind-requires-clause-day c =
    let parted = subst (IsOneModelOf _ _) c.in-Rotor-Cables.is-0 c.in_ok-parts.ensures.parted in
    subst IsLegalDay parted.1 c.in_ok-parts.ensures.day

pub cable_prices_by_kind-requires-clause-model : goal.cable_prices_by_kind-requires-clause-model
cable_prices_by_kind-requires-clause-model c =
    let parted = subst (IsOneModelOf _ _) c.in-Rotor-Cables.is-0 c.in_ok-parts.ensures.parted in parted.2

pub cable_prices_by_kind-requires-clause-prices : goal.cable_prices_by_kind-requires-clause-prices
cable_prices_by_kind-requires-clause-prices c =
    subst ArePrices c.in-Rotor-Cables.is-1 c.parts.ensures.are_prices

pub returns-in-Rotor-Cables : goal.returns-in-Rotor-Cables
returns-in-Rotor-Cables c =
    let h = c.in-Rotor-Cables in
    let parted = subst (IsOneModelOf _ _) h.is-0 c.in_ok-parts.ensures.parted in
    rw (sym c.parts.ensures.value ∙ h.is-1, parted.0, parted.1) c.cable_prices_by_kind.ensures

pub bar_prices_by_kind-requires-clause-machine : goal.bar_prices_by_kind-requires-clause-machine
bar_prices_by_kind-requires-clause-machine c =
    let parted = subst (IsOneModelOf _ _) c.in-Pin-Bars.is-0 c.in_ok-parts.ensures.parted in
    subst IsMachine parted.0 c.in_ok-parts.ensures.machine

pub bar_prices_by_kind-requires-clause-day : goal.bar_prices_by_kind-requires-clause-day
bar_prices_by_kind-requires-clause-day c =
    let parted = subst (IsOneModelOf _ _) c.in-Pin-Bars.is-0 c.in_ok-parts.ensures.parted in
    subst IsLegalDay parted.1 c.in_ok-parts.ensures.day

pub bar_prices_by_kind-requires-clause-prices : goal.bar_prices_by_kind-requires-clause-prices
bar_prices_by_kind-requires-clause-prices c = subst ArePrices c.in-Pin-Bars.is-1 c.parts.ensures.are_prices

pub returns-in-Pin-Bars : goal.returns-in-Pin-Bars
returns-in-Pin-Bars c =
    let h = c.in-Pin-Bars in
    let parted = subst (IsOneModelOf _ _) h.is-0 c.in_ok-parts.ensures.parted in
    rw (sym c.parts.ensures.value ∙ h.is-1, parted.0, parted.1) c.bar_prices_by_kind.ensures
