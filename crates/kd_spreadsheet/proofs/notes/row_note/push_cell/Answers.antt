use Rattle.std.proofs.Common.{◌∙◌, ◌∷◌, [], refl, sym}
use Rattle.std.proofs.lemmas.Result.{IfOk-weaker}
use Rattle.kd_spreadsheet.specs.Notes.{cell_place, same_day_words}
use Rattle.kd_spreadsheet.proofs.Noting.{one_line}
use Rattle.kd_spreadsheet.proofs.notes.row_note.push_cell.Goals as goal

pub returns-in-Some : goal.returns-in-Some
returns-in-Some c =
    let head = c.args.head.now in
    let is = sym c.earlier_row.ensures ∙ c.in-Some.is in
    let at = cell_place head.columns head.names c.args.row.now.place c.args.cell in
    let words = same_day_words head.language c.in-Some.earlier in
    let place = c.as_slice.ensures.value ∙ c.in_ok-place.ensures in
    IfOk-weaker c.push_same_day.result _ _ (λ done told. (words ∷ [], one_line at _ _ words told, rw is refl))
    (rw (place, c.place.ensures) at c.push_same_day.ensures)
