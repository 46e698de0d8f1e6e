use Rattle.std.proofs.Common.{◌≡◌, ◌∙◌, true, subst, sym, MatchOption, slice_index_or}
use Rattle.std.proofs.lemmas.List.{get_or_default}
use Rattle.kd_spreadsheet.specs.Rows.{may_end}
use Rattle.kd_spreadsheet.specs.RowNumbers.{AreLineEnds, IsRowBefore, StartsRow, ends_line}
use Rattle.kd_spreadsheet.proofs.CountedRows.{row_found_or, row_last}
use Rattle.kd_spreadsheet.proofs.notes.row_numbers.skip_row.Goals as goal

pub returns-then-may_end : goal.returns-then-may_end
returns-then-may_end c =
    let rest = c.args.rest.now in
    let place = c.loop-place.place in
    let byte = slice_index_or rest place 0 in
    let ends : ends_line byte ≡ true = sym c.ends_line.ensures ∙ c.if-ends_line.true in
    let may : may_end c.loop-place.quoting ≡ true = sym c.may_end.ensures ∙ c.if-may_end.true in
    let line = subst (λ l. MatchOption c.after_line_end.result (StartsRow l) (λ left. AreLineEnds l 1 left.now))
    c.split_at.ensures.back c.after_line_end.ensures in
    subst (λ found. IsRowBefore c.args.separator rest found.now) (sym c.unwrap_or.ensures)
    (row_found_or (λ left. left.now) c.args.separator rest c.loop-place.quoting place byte c.after_line_end.result _
    c.requires c.loop-place-test.true (get_or_default rest place byte 0 c.loop-place-test.true) ends may c.loop-place.invariant line)

pub returns : goal.returns
returns c =
    row_last c.args.separator c.args.rest.now c.loop-place.quoting c.loop-place.place c.requires c.loop-place-test.false
    c.loop-place.invariant
