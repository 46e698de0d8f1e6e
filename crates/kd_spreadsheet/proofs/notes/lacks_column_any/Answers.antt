use Rattle.std.proofs.Common.{◌∙◌, ◌||◌, ap, ap₂, arith, map, sym, take}
use Rattle.std.proofs.lemmas.List.{take_all}
use Rattle.std.specs.List.{list_any}
use Rattle.csv.specs.Records.{fields_of}
use Rattle.kd_spreadsheet.specs.Notes.{lacks_column}
use Rattle.kd_spreadsheet.proofs.Noting.{any_at, any_more}
use Rattle.kd_spreadsheet.proofs.ReadRows.{one_longer}
use Rattle.kd_spreadsheet.proofs.notes.lacks_column_any.Goals as goal

pub returns-then-lacks_column : goal.returns-then-lacks_column
returns-then-lacks_column c =
    let head = c.args.head.now in
    sym (any_at (lacks_column head.options head.columns) fields_of c.args.rows.now c.loop-row.row-index c.row-item.result
    c.loop-row-test.true c.row-item.is (sym c.lacks_column.ensures ∙ c.if-lacks_column.true))

pub loop-row-preserved : goal.loop-row-preserved
loop-row-preserved c =
    let head = c.args.head.now in
    let lacks = lacks_column head.options head.columns in
    let rows = c.args.rows.now in
    let index = c.loop-row.row-index in
    rw (one_longer rows index c.row-item.result c.loop-row-test.true c.row-item.is)
    (any_more lacks (map fields_of (take index rows)) (fields_of c.row-item.result)
    ∙ ap₂ (λ a b. a || b) c.loop-row.invariant (sym c.lacks_column.ensures ∙ c.if-lacks_column.false))

pub returns : goal.returns
returns c =
    let head = c.args.head.now in
    let all = take_all c.loop-row.row-index c.args.rows.now (omega (arith, c.loop-row-test.false)) in
    sym (ap (λ rows. list_any (lacks_column head.options head.columns) (map fields_of rows)) (sym all)
    ∙ c.loop-row.invariant)
