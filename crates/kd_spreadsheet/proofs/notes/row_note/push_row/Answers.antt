use Rattle.std.proofs.Common.{sym}
use Rattle.std.proofs.lemmas.Result.{IfOk-weaker}
use Rattle.csv.specs.Records.{fields_of}
use Rattle.kd_spreadsheet.proofs.Noting.{row_told}
use Rattle.kd_spreadsheet.proofs.notes.row_note.push_row.Goals as goal

pub returns : goal.returns
returns c =
    let head = c.args.head.now in
    let place = rw (sym c.as_str.ensures.value, sym c.as_bytes.ensures.value) at c.in_ok-place.ensures in
    let placed = rw c.new-placed.ensures at c.push_placed_row.ensures in
    IfOk-weaker c.push_placed_row.result _ _ (λ done told.
    let of_row = row_told head.language head.options head.columns head.names c.as_bytes.result.now
    (fields_of c.args.row.now) c.earlier_row-earlier.result c.args.number _ _ place told in (
      of_row.0,
      of_row.1,
      λ numbers rows due knows.
          let day = c.earlier_row-earlier.ensures numbers rows due knows in
          (of_row.2 numbers rows day.0, day.1),
    ))
    placed
