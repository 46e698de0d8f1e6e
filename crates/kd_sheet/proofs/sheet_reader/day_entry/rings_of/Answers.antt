use Rattle.kd_sheet.proofs.ReadBack.Described.KeyValues.Steps.{arith, list_of-items_of, the_lemmas}
use Rattle.kd_sheet.proofs.sheet_reader.day_entry.rings_of.Goals as goal

pub returns-in-Array : goal.returns-in-Array
returns-in-Array c = rw c.in-Array.is (grind (arith, list_of-items_of, the_lemmas))
