-- Notes that are written.
use Rattle.std.proofs.Common.{◌≡◌, ◌||◌, ℕ, Bool, List, take, Option, Result, Ok, Err, is_err, arith}
use Rattle.kd_tables.specs.Writing.{Writes}
use Rattle.kd_spreadsheet.specs.Notes.{Tells}

-- a text, or a prefix of it, was written
pub tells_text : {T E : Type 0} (a b : Option (List ℕ)) (before after : Bool) (text : List ℕ) (answer : Result T E)
    → Writes a b text answer → after ≡ (before || is_err answer)
    → Tells (record { had = a; has = b; had_failed = before; has_failed = after })
tells_text a b before after text (Ok done) writes failed =
    record { text = text; written = writes.whole; failed = λ is. grind (arith, failed) }
tells_text a b before after text (Err fault) writes failed =
    let front = writes.front in
    record { text = take front.0 text; written = front.2; failed = λ is. grind (arith, failed) }
