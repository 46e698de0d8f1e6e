use Rattle.kd_sheet.proofs.ReadBack.Described.KeyValues.Steps.{arith, list_of-items_of, the_lemmas}
use Rattle.kd_slips.proofs.values.items_of.Goals as goal

pub returns-in-Some-clause-found : goal.returns-in-Some-clause-found
returns-in-Some-clause-found c = grind (arith, list_of-items_of, the_lemmas)
