use Rattle.kd_state.proofs.Prelude.{ap, arith, cable_of_column, columns_of, map, sym, ◌∙◌, ◌≤◌}
use Rattle.kd_state.proofs.{Cables.cables_by_columns, CostTable.thirteen_columns}
use Rattle.kd_state.proofs.machine.on_key.cables_of.Goals as goal
use Rattle.std.proofs.lemmas.List.{take_all}

pub returns : goal.returns
returns c =
    let l = c.loop-place in
    let end : 13 ≤ l.place = omega arith in
    let many = thirteen_columns c.args.pairs.now (omega arith) in
    sym (take_all l.place l.cables (omega (arith, end, l.invariant.size))) ∙ l.invariant.done
    ∙ ap (map cable_of_column) (take_all l.place (columns_of c.args.pairs.now) (omega (arith, end, many)))
    ∙ cables_by_columns c.args.pairs.now
