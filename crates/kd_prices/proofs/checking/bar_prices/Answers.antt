use Rattle.kd_prices.proofs.{Found.kinds_found, Prelude.{GoesOn, HasFault, OtherModel, Same, arith, refl, rules}}
use Rattle.kd_prices.proofs.Prelude.{Bars, Pin, bar_format, length, row_format, ◌≡◌}
use Rattle.kd_state.specs.Entry.{pin_values}
use Rattle.kd_prices.proofs.checking.bar_prices.Goals as goal

pub returns-in-Bars-clause-found : goal.returns-in-Bars-clause-found
returns-in-Bars-clause-found c = rw c.in-Bars.is (GoesOn tt tt (Same refl refl))

pub returns-in-BarKinds-clause-found : goal.returns-in-BarKinds-clause-found
returns-in-BarKinds-clause-found c =
    let day = pin_values c.args.entry.now in
    let are = rw c.in-BarKinds.is at c.requires.prices in
    let bars : length c.args.parts.now.bars ≡ 27 = search rules in
    let rows : length day.rows ≡ 27 = search rules in
    rw (c.in-BarKinds.is, c.ok_or.ensures.value, c.zip.ensures)
    (kinds_found bar_format row_format c.args.parts.now.bars day.rows c.in-BarKinds.rows.items
    c.in-BarKinds.columns.items (Pin c.args.parts.now) (Pin day) _ Bars tt (λ found one two. grind arith)
    (λ found expands. grind arith) c.prices_of-rows.result c.prices_of-columns.result c.prices_of-rows.ensures
    c.prices_of-columns.ensures)

pub returns-in-Cables-clause-found : goal.returns-in-Cables-clause-found
returns-in-Cables-clause-found c = HasFault OtherModel ((λ same belong. grind arith), refl) refl
