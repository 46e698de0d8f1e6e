use Rattle.std.proofs.Common.{◌≡◌, ◌∙◌, ◌<◌, ap, arith, sym, Some, None}
use Rattle.std.proofs.lemmas.Grind.{common_steps}
use Rattle.std.specs.Prelude.{slice_index_or}
use Rattle.csv.specs.Records.{fields_of}
use Rattle.kd_spreadsheet.specs.Cells.{day_in}
use Rattle.kd_spreadsheet.specs.Notes.{day_of_row}
use Rattle.kd_spreadsheet.proofs.FoundDays.{day_again, day_first, days_without}
use Rattle.kd_spreadsheet.proofs.notes.found.Found.earlier_row.Goals as goal

pub returns-in_err-day_in : goal.returns-in_err-day_in
returns-in_err-day_in c = λ numbers rows due knows.
    let row = fields_of c.args.row.now in
    let cell = rw c.columns.ensures at c.cell_at.ensures in
    let none : day_of_row c.args.head.now.columns row ≡ None = ap day_in (sym cell) ∙ sym c.day_in.ensures ∙ c.in_err-day_in.was in
    (rw none c.from_residual.ensures, days_without c.args.head.now.columns numbers rows row _ none knows)

pub returns-in-Some : goal.returns-in-Some
returns-in-Some c = λ numbers rows due knows.
    let row = fields_of c.args.row.now in
    let cell = rw c.columns.ensures at c.cell_at.ensures in
    let is : day_of_row c.args.head.now.columns row ≡ Some c.from-day.result =
    ap day_in (sym cell) ∙ sym c.day_in.ensures ∙ c.in_ok-day_in.was ∙ ap Some (sym c.from-day.ensures) in
    let below : c.from-day.result < 32 = grind (arith, common_steps) in
    day_again c.args.head.now.columns numbers rows row _ c.from-day.result is below knows c.in-Some.earlier c.in-Some.is

pub returns : goal.returns
returns c = λ numbers rows due knows.
    let row = fields_of c.args.row.now in
    let cell = rw c.columns.ensures at c.cell_at.ensures in
    let is : day_of_row c.args.head.now.columns row ≡ Some c.from-day.result =
    ap day_in (sym cell) ∙ sym c.day_in.ensures ∙ c.in_ok-day_in.was ∙ ap Some (sym c.from-day.ensures) in
    let below : c.from-day.result < 32 = grind (arith, common_steps) in
    let new : slice_index_or c.args.self.now.rows c.from-day.result None ≡ None = grind (arith, common_steps) in
    day_first c.args.head.now.columns numbers rows row _ c.from-day.result is below knows c.args.number new due
