use Rattle.kd_prices.proofs.{Found.kinds_found, Prelude.{GoesOn, HasFault, OtherModel, Same, arith, refl, rules}}
use Rattle.kd_state.specs.Entry.{rotor_values}
use Rattle.kd_prices.proofs.Prelude.{Cables, Rotor, cable_format, columns_in_order, length, pair_format, ◌≡◌}
use Rattle.kd_prices.proofs.checking.cable_prices.Goals as goal

pub returns-in-Cables-clause-found : goal.returns-in-Cables-clause-found
returns-in-Cables-clause-found c = rw c.in-Cables.is (GoesOn tt tt (Same refl refl))

pub returns-in-CableKinds-clause-found : goal.returns-in-CableKinds-clause-found
returns-in-CableKinds-clause-found c =
    let day = rotor_values c.args.entry.now in
    let are = rw c.in-CableKinds.is at c.requires.prices in
    let cables : length c.args.parts.now.cables ≡ 13 = search rules in
    let columns = rw (c.columns_of.ensures.value, c.as_slice.ensures.value) at c.columns_of.ensures.number in
    rw (c.in-CableKinds.is, c.ok_or.ensures.value, c.zip.ensures)
    (kinds_found cable_format pair_format c.args.parts.now.cables (columns_in_order day.pairs)
    c.in-CableKinds.rows.items c.in-CableKinds.columns.items (Rotor c.args.parts.now) (Rotor day) _ Cables tt
    (λ found one two. grind arith) (λ found expands. grind arith) c.prices_of-rows.result c.prices_of-columns.result
    c.prices_of-rows.ensures
    (rw (c.as_slice-in-CableKinds.ensures.value, c.columns_of.ensures.value, c.as_slice.ensures.value)
    at c.prices_of-columns.ensures))

pub returns-in-Bars-clause-found : goal.returns-in-Bars-clause-found
returns-in-Bars-clause-found c = HasFault OtherModel ((λ same belong. grind arith), refl) refl
