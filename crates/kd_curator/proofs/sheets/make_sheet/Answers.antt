use Rattle.std.proofs.Common.{Err, Ok}
use Rattle.kd_curator.specs.Sheets.{Sheet}
use Rattle.kd_curator.proofs.SheetAnswers.{not_made, notes_made}
use Rattle.kd_curator.proofs.sheets.make_sheet.Goals as goal

pub returns-in-Ok-clause-sheet : goal.returns-in-Ok-clause-sheet
returns-in-Ok-clause-sheet g c =
    let made = rw (c.as_bytes.ensures.value, c.as_bytes-2.ensures.value, c.as_bytes-3.ensures.value)
    at c.in-Ok.ensures.sheet in
    Sheet made.0 made.1 made.3 (record { written = record { whole = made.2; front = tt }; device = tt })

pub returns-in-Err-clause-sheet : goal.returns-in-Err-clause-sheet
returns-in-Err-clause-sheet g c =
    let refused = rw (c.as_bytes.ensures.value, c.as_bytes-2.ensures.value, c.as_bytes-3.ensures.value)
    at c.in-Err.ensures.refused in
    let stops = rw (c.as_bytes.ensures.value, c.as_bytes-2.ensures.value, c.as_bytes-3.ensures.value)
    at c.in-Err.ensures.device in
    rw c.of_sheet.ensures (not_made _ _ _ c.in-Err.fault refused stops)

pub returns-in-Ok-clause-noted : goal.returns-in-Ok-clause-noted
returns-in-Ok-clause-noted g c =
    let noted = rw (c.as_bytes.ensures.value, c.as_bytes-2.ensures.value, c.as_bytes-3.ensures.value)
    at c.in-Ok.ensures.noted in notes_made _ _ _ _ (Ok tt) noted c.in-Ok.ensures.told

pub returns-in-Err-clause-noted : goal.returns-in-Err-clause-noted
returns-in-Err-clause-noted g c =
    let noted = rw (c.as_bytes.ensures.value, c.as_bytes-2.ensures.value, c.as_bytes-3.ensures.value)
    at c.in-Err.ensures.noted in
    rw c.of_sheet.ensures (notes_made _ _ _ _ (Err c.in-Err.fault) noted c.in-Err.ensures.told)
